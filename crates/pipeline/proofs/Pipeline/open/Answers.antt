-- `pipeline::Pipeline::open` meets its contract: each step by the laws of what the records so far have opened. Assumes nothing.
use Rattle.std.proofs.Common.{rules, sym, ap, ◌∙◌, Ok}
use Rattle.pipeline.proofs.Opens.{opens_start, opens_end, opens_short, opens_note, opens_unfit, opens_room, opens_next, call_format, call_refused, call_opened, chain_is}
use Rattle.pipeline.proofs.Pipeline.open.Goals as goal

pub returns-then-not-allowed : goal.returns-then-not-allowed
returns-then-not-allowed c = sym (call_format c.args.format c.args.recipe.now (sym c.allowed.ensures ∙ c.if-not-allowed.true))

pub loop-left-init : goal.loop-left-init
loop-left-init c =
    let o = opens_start c.args.format c.args.recipe.now (sym c.allowed.ensures ∙ c.if-not-allowed.false) in
    record { can = tt; ends = tt; opens = rw (c.no_stages-stages.ensures, c.into_iter-left-iterator.ensures.into_iter_gives) o }

-- a record that is refused
pub returns-in_err-record : goal.returns-in_err-record
returns-in_err-record c =
    let o = rw c.in-Some.ensures.steps at c.loop-left.invariant.opens in
    let e = opens_short o (sym c.read.ensures ∙ c.in_err-record.was) in
    rw (call_refused c.args.format c.args.recipe.now (sym c.allowed.ensures ∙ c.if-not-allowed.false) e) (search rules)

-- a stage that is refused
pub returns-in_err-kind : goal.returns-in_err-kind
returns-in_err-kind c =
    let o = rw c.in-Some.ensures.steps at c.loop-left.invariant.opens in
    let e = opens_unfit o (sym c.read.ensures ∙ c.in_ok-record.was ∙ ap Ok c.in-Stage.is) (sym c.stage_of.ensures ∙ c.in_err-kind.was) in
    rw (call_refused c.args.format c.args.recipe.now (sym c.allowed.ensures ∙ c.if-not-allowed.false) e) (search rules)

-- a stage that is taken
pub bounds-stages-count : goal.bounds-stages-count
bounds-stages-count c =
    let o = rw c.in-Some.ensures.steps at c.loop-left.invariant.opens in
    opens_room o (sym c.read.ensures ∙ c.in_ok-record.was ∙ ap Ok c.in-Stage.is) (sym c.stage_of.ensures ∙ c.in_ok-kind.was)

pub loop-left-preserved : goal.loop-left-preserved
loop-left-preserved c =
    let o = rw c.in-Some.ensures.steps at c.loop-left.invariant.opens in
    let next = opens_next o (sym c.read.ensures ∙ c.in_ok-record.was ∙ ap Ok c.in-Stage.is) (sym c.stage_of.ensures ∙ c.in_ok-kind.was) in
    record { can = tt; ends = tt; opens = rw (c.new.ensures, c.format_after-reaching.ensures) next }

-- a note
pub loop-left-preserved-in_default : goal.loop-left-preserved-in_default
loop-left-preserved-in_default c =
    let o = rw c.in-Some.ensures.steps at c.loop-left.invariant.opens in
    record { can = tt; ends = tt; opens = opens_note o (sym c.read.ensures ∙ c.in_ok-record.was ∙ ap Ok c.in_default.is) }

pub returns : goal.returns
returns c =
    let o = rw c.in-None.ensures.steps.0 at c.loop-left.invariant.opens in
    let e = call_opened c.args.format c.args.recipe.now (sym c.allowed.ensures ∙ c.if-not-allowed.false) (opens_end o) in
    sym (e ∙ ap Ok (rw (chain_is c.args.format o.done, ← o.many, ← o.placed)))

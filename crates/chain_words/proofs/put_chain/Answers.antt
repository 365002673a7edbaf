use Rattle.std.proofs.Common.{◌≡◌, List, ℕ, ◌+◌, ◌*◌, ◌≤◌, ◌<◌, ◌++◌, length, take, get_or, sym, ap, ◌∙◌, subst, arith, length-append, length-take-le}
use Rattle.std.proofs.lemmas.List.{take_all}
use Rattle.std.proofs.lemmas.List.Edits.{sets}
use Rattle.pcm.specs.Samples.{All}
use Rattle.stage.specs.declared.Stage.{Stage}
use Rattle.stage.specs.Places.{no_stage}
use Rattle.stage_words.specs.Layout.{words_of_stage}
use Rattle.stage_words.specs.Storable.{HeldStage}
use Rattle.words.specs.laws.Runs.{sets_append}
use Rattle.chain_words.specs.Layout.{head_words, stages_words, words_of}
use Rattle.chain_words.specs.laws.Chains.{length_head, length_stages}
use Rattle.chain_words.proofs.Chains.{stages_next, no_stages}
use Rattle.chain_words.proofs.Parts.{all_next, whole_run}
use Rattle.chain_words.proofs.put_chain.Goals as goal

pub loop-i-init : goal.loop-i-init
loop-i-init c = (rw no_stages, tt)

pub loop-i-preserved : goal.loop-i-preserved
loop-i-preserved c =
    let st = c.args.chain.stages in
    let w₀ = c.put_head.new.w in
    let i = c.loop-i.i in
    let v = c.loop-i.invariant in
    let p = c.put_stage_at.ensures in
    let s = words_of_stage (get_or st i no_stage) in
    let b = stages_words (take i st) in
    let h : i < length st = omega arith in
    let e : 8 + 18 * i ≡ 8 + length b = omega (arith, length_stages (take i st), length-take-le i st (omega arith)) in (
      p.0 ∙ ap (λ (x : List ℕ). sets x (8 + 18 * i) s) v.0 ∙ ap (λ (n : ℕ). sets (sets w₀ 8 b) n s) e ∙ sym (sets_append b s w₀ 8) ∙ ap (sets w₀ 8) (sym (stages_next st i no_stage h)),
      all_next HeldStage st i no_stage h v.1 p.1,
    )

pub returns : goal.returns
unfolding words_of
returns c =
    let a = c.args in
    let st = a.chain.stages in
    let w = a.w.now in
    let w₀ = c.put_head.new.w in
    let v = c.loop-i.invariant in
    let t : take c.loop-i.i st ≡ st = take_all c.loop-i.i st (omega arith) in
    let e : 0 + length (head_words a.chain) ≡ 8 = omega (arith, length_head a.chain) in
    let n : length (head_words a.chain ++ stages_words st) ≤ length w =
    omega (arith, length-append (head_words a.chain) (stages_words st), length_head a.chain, length_stages st, c.requires) in (
      v.0 ∙ ap (λ (x : List Stage). sets w₀ 8 (stages_words x)) t ∙ ap (λ (x : List ℕ). sets x 8 (stages_words st)) c.put_head.ensures
          ∙ sym (sets_append (head_words a.chain) (stages_words st) w 0 ∙ ap (λ (n : ℕ). sets (sets w 0 (head_words a.chain)) n (stages_words st)) e)
          ∙ whole_run (head_words a.chain ++ stages_words st) w n,
      subst (λ (x : List Stage). All HeldStage x) t v.1,
    )

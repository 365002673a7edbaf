use Rattle.std.proofs.Common.{◌≡◌, List, ℕ, ◌+◌, ◌*◌, ◌<◌, length, take, get_or, sym, ap, ◌∙◌, arith, length-take-le, add-one}
use Rattle.std.proofs.lemmas.List.Edits.{sets}
use Rattle.std.proofs.Math.Seq.{take-suc}
use Rattle.stage.specs.Places.{no_stage}
use Rattle.stage_words.specs.Layout.{memory_words}
use Rattle.stage_words.specs.Storable.{HeldMemory}
use Rattle.chain_words.specs.Kept.{kept_words}
use Rattle.chain_words.proofs.Keeping.{kept_next, kept_none}
use Rattle.chain_words.proofs.Parts.{all_next}
use Rattle.chain_words.proofs.put_memories.Goals as goal

pub loop-i-init : goal.loop-i-init
loop-i-init c = (sym (kept_none _ 0), tt)

pub loop-i-preserved : goal.loop-i-preserved
loop-i-preserved c =
    let st = c.args.stages.now in
    let w₀ = c.args.w.now in
    let i = c.loop-i.i in
    let v = c.loop-i.invariant in
    let p = c.put_memory_at.ensures in
    let b = take i st in
    let m = memory_words (get_or st i no_stage).memory in
    let h : i < length st = omega arith in
    let e : i ≡ 0 + length b = omega (arith, length-take-le i st (omega arith)) in (
      p.0 ∙ ap (λ (x : List ℕ). sets x (8 + 18 * i + 7) m) v.0 ∙ ap (λ (n : ℕ). sets (kept_words w₀ 0 b) (8 + 18 * n + 7) m) e ∙ sym (kept_next b (get_or st i no_stage) w₀ 0)
          ∙ ap (kept_words w₀ 0) (sym (take-suc st i no_stage h) ∙ ap (λ (n : ℕ). take n st) (sym (add-one i))),
      all_next HeldMemory st i no_stage h v.1 (record { filter = p.1; last = p.2 }),
    )

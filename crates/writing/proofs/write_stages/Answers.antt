use Rattle.std.proofs.Common.{◌≡◌, List, ℕ, ◌+◌, refl, length, take, ap, sym, ◌∙◌, arith}
use Rattle.pcm.specs.Frames.{written}
use Rattle.pcm.specs.laws.Frames.{written-nil}
use Rattle.pcm.specs.laws.Written.{written_part}
use Rattle.recipe.specs.Records.{record_bytes}
use Rattle.writing.specs.WritingBack.{recipe_of}
use Rattle.writing.proofs.WritingBack.{recipe_next, size_next}
use Rattle.writing.proofs.write_stages.Goals as goal

pub loop-s-init : goal.loop-s-init
unfolding recipe_of
loop-s-init c = (refl, sym (written-nil _))

pub loop-s-preserved : goal.loop-s-preserved
loop-s-preserved c =
    let l = c.args.stages.now in
    let i = c.loop-s.s-index in
    let e = c.record_of-next.ensures in
    let n : recipe_of (take (i + 1) l) ≡ _ = recipe_next l i c.loop-s-test.true in (
      omega (arith, size_next l i c.loop-s-test.true, ap (λ r. length (record_bytes r)) e),
      written_part (recipe_of (take i l)) (record_bytes c.record_of-next.result) c.args.out.now c.loop-s.out c.write.new.out c.loop-s.at c.loop-s.invariant.0 c.loop-s.invariant.1 c.write.ensures
          ∙ ap (λ (x : List ℕ). written x c.args.out.now) (rw e (sym n)),
    )

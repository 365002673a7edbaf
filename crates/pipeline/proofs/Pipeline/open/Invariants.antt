-- The loop of `pipeline::Pipeline::open`: what the records so far have opened.
use Rattle.recipe.specs.Records.{records}
use Rattle.pipeline.proofs.Opens.{Opens}
use Rattle.pipeline.proofs.Pipeline.open.Given as goal

abbrev pub invariant-loop-left : goal.invariant-loop-left
invariant-loop-left l = record {
  can : (goal.iterator-loop-left).can_next l.left-iterator;
  ends : (goal.iterator-loop-left).is_finite l.left-iterator;
  opens : Opens l.fn.format l.recipe l.stages l.reaching l.count (records l.left-iterator.left.now);
}

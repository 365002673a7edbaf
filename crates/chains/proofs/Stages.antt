-- A stage that remembers nothing stays as it was. Assumes nothing.
use Rattle.std.specs.Prelude.{◌≡◌, refl, false, List, ℕ, set}
use Rattle.std.proofs.Common.{sym, ap, ◌∙◌}
use Rattle.std.proofs.lemmas.List.{set-get_or}
use Rattle.pcm.specs.Frames.{Frame}
use Rattle.pcm.specs.laws.Tests.{true_false}
use Rattle.stage.specs.declared.Stage.{Stage}
use Rattle.stage.specs.declared.StageKind.{StageKind}
use Rattle.stage.specs.declared.StageKind.TheVariants as kind
use Rattle.stage.specs.Stages.{remembers, keeps_of, stage_next}
use Rattle.stage.specs.Places.{no_stage}
use Rattle.pipeline.specs.declared.Pipeline.{Pipeline}
use Rattle.chains.specs.Chains.{stage_in, Follows, with_stages}

plain_next : (s : Stage) (xs : List Frame) → remembers s.kind ≡ false → stage_next s xs ≡ s
unfolding stage_next
plain_next s xs h = ap (λ (m : _). record { kind = s.kind; memory = m }) (go s.kind h)
  where
    go : (k : StageKind) → remembers k ≡ false → keeps_of k s.memory xs ≡ s.memory
    go (kind.Gain g) h = refl
    go kind.MonoToStereo h = refl
    go kind.StereoToMono h = refl
    go (kind.Resample r) h = absurd (true_false h)
    go (kind.DcBlock b) h = absurd (true_false h)
    go (kind.Biquad b) h = absurd (true_false h)

same_kind : (s next : Stage) → Follows s next → next.kind ≡ s.kind
unfolding stage_next
same_kind s next f = ap (λ (x : Stage). x.kind) f.is

pub stayed : (c : Pipeline) (i : ℕ) (s : Stage) → Follows (stage_in c i) s → remembers s.kind ≡ false → c ≡ with_stages c (set c.stages i s)
unfolding with_stages
stayed c i s f r =
    let e : s ≡ stage_in c i = f.is ∙ plain_next (stage_in c i) f.frames (ap remembers (sym (same_kind (stage_in c i) s f)) ∙ r) in
    ap (λ (l : List Stage). record { stages = l; count = c.count; format = c.format; blocks = c.blocks; empty_blocks = c.empty_blocks }) (sym (ap (set c.stages i) e ∙ set-get_or c.stages i no_stage))

use Rattle.std.proofs.Common.{◌≡◌, ◌∙◌, sym, ap, rules, ◌<◌, pos}
use Rattle.pcm.specs.Samples.{Bytes, decode}
use Rattle.pcm.specs.laws.Samples.{all_by_index, decode_fits}
use Rattle.pcm.specs.Frames.{written}
use Rattle.gain.specs.Gain.{scaled_bytes}
use Rattle.gain.specs.Clipping.{clipped_in}
use Rattle.gain.specs.Theorems.{unity_bytes, unity_clips_nothing}
use Rattle.gain.proofs.Gain.process.Goals as goal

-- the factor 32,768 leaves each sample as it is, and holds none back
pub returns-then-eq : goal.returns-then-eq
returns-then-eq c =
    let input = c.args.input.now in
    let bytes : Bytes input = all_by_index (λ b. b < 256) 0 input (λ i h. (c.type_inv.input i).fits) in
    let unity : c.args.self.q15 ≡ pos 32768 = search rules in (
      c.copy_front.ensures ∙ sym (ap (λ l. written l c.args.out.now) (ap (λ z. scaled_bytes z input) unity ∙ unity_bytes input c.requires.whole bytes)),
      sym (ap (λ z. clipped_in z (decode input)) unity ∙ unity_clips_nothing (decode input) (decode_fits input bytes)),
    )

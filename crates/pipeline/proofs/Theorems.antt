-- What the definitions come to: the chief theorems of this crate. Assumes nothing.
use Rattle.std.specs.Prelude.{◌≡◌, map, List, [], ◌≤◌, ℕ, true, length, take, Ok}
use Rattle.std.proofs.Math.Path.{sym, ap}
use Rattle.std.proofs.Common.{ap₂, ◌∙◌, le-leb}
use Rattle.stage.specs.Stages.{stage_clear, kinds_of}
use Rattle.pipeline.specs.declared.Pipeline.{Pipeline}
use Rattle.pipeline.specs.WritingBack.{stages_of, write_verdict, write_outcome, write_call}
use Rattle.pipeline.specs.Reset.{reset_call}
use Rattle.pipeline.specs.laws.Reset.{front_cleared}
use Rattle.pcm.specs.declared.PcmFormat.{PcmFormat}
use Rattle.pcm.specs.declared.Error.TheVariants.{InvalidFormat}
use Rattle.pcm.specs.Formats.{format_allowed}
use Rattle.pcm.specs.Refusals.{ask, room_verdict}
use Rattle.pcm.specs.Samples.{Bytes}
use Rattle.recipe.specs.Records.{records, WholeRecords}
use Rattle.recipe.specs.Notes.{notes_in, without_notes}
use Rattle.recipe.specs.Theorems.{no_notes}
use Rattle.recipe.specs.laws.Notes.{records_bytes}
use Rattle.pipeline.specs.Opening.{Stages, asked, open_stages, chain_of, opened_of, open_call}
use Rattle.pipeline.proofs.laws.Opening.{open_none}
use Rattle.writing.specs.WritingBack.{recipe_of}
use Rattle.pipeline.proofs.RecipeKept.{recipe_kept}
use Rattle.pipeline.proofs.laws.RoundTrip.{opened_few, whole_records, open_without_notes, recipe_of_kinds, opened_from, count_is, format_is}

pub reset_stages : (c : Pipeline) → c.count ≤ 8 → stages_of (reset_call c) ≡ map stage_clear (stages_of c)
unfolding reset_call
reset_stages c h = rw (le-leb c.count 8 h) (front_cleared c.count c.stages)

-- notes are passed over, wherever they stand and however many: whole records are answered as they are without the notes among them
pub notes_passed_over : (f : PcmFormat) (bytes : List ℕ) → Bytes bytes → WholeRecords (records bytes) → open_call f bytes ≡ open_call f (without_notes bytes)
unfolding open_call open_stages without_notes
notes_passed_over f bytes b w =
    ap (λ (x : Stages). opened_of f (asked (ask (format_allowed f) InvalidFormat (Ok tt)) x)) (sym (open_without_notes (records bytes) (records_bytes 0 bytes b) w 8 f))

module _ (f : PcmFormat) (bytes : List ℕ) (c : Pipeline) (e : open_call f bytes ≡ Ok c) where
  -- a chain has at most eight stages
  pub opened_count : c.count ≤ 8
  opened_count = let o = opened_from f bytes c e in rw (o.chain_is, count_is f o.stages) (opened_few 8 f bytes o.stages o.opens)

  pub opened_format : c.format ≡ f
  opened_format = let o = opened_from f bytes c e in rw o.chain_is (format_is f o.stages)

  -- every record of its recipe is whole
  pub opened_whole : WholeRecords (records bytes)
  unfolding open_stages
  opened_whole = let o = opened_from f bytes c e in whole_records 8 f (records bytes) o.stages o.opens

  module _ (b : Bytes bytes) where
    -- every recipe that opens is written back without its notes, whatever its bits; needed is the bytes so written
    pub opened_writes : (out : List ℕ) → write_call c out ≡ write_outcome (room_verdict (length (without_notes bytes)) (length out)) (without_notes bytes) out
    unfolding write_call write_verdict
    opened_writes out = rw (le-leb c.count 8 opened_count, recipe_kept f bytes c e b)

    -- and unchanged where it holds none
    pub opened_writes_exactly : notes_in bytes ≡ [] → (out : List ℕ) → write_call c out ≡ write_outcome (room_verdict (length bytes) (length out)) bytes out
    opened_writes_exactly n = let k = no_notes bytes n in rw k at opened_writes

    -- what a chain writes opens as the same chain as opened, whatever sound the stages have taken since
    pub written_opens : (d : Pipeline) → d.format ≡ c.format → kinds_of (stages_of d) ≡ kinds_of (stages_of c)
        → open_call d.format (recipe_of (stages_of d)) ≡ Ok c
    written_opens d g k =
        ap₂ open_call (g ∙ opened_format) (recipe_of_kinds (stages_of d) (stages_of c) k ∙ recipe_kept f bytes c e b) ∙ sym (notes_passed_over f bytes b opened_whole) ∙ e

    -- a chain of no stages is a recipe of notes alone
    pub none_is_empty : c.count ≡ 0 → without_notes bytes ≡ []
    unfolding recipe_of
    none_is_empty z = sym (recipe_kept f bytes c e b) ∙ ap (λ (n : ℕ). recipe_of (take n c.stages)) z

-- the empty recipe is a chain of no stages
pub empty_is_none : (f : PcmFormat) → format_allowed f ≡ true → open_call f [] ≡ Ok (chain_of f [])
unfolding open_call
empty_is_none f h = rw (h, open_none 8 f)

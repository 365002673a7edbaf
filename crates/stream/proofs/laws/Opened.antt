-- Laws of the definitions in Opened: stages as opened of any kinds that suit, in the first places, are a chain as opening returns it. Assumes nothing.
use Rattle.std.specs.Prelude.{◌≡◌, refl, true, List, [], ◌∷◌, ◌++◌, map, ℕ, ◌+◌}
use Rattle.std.proofs.Common.{sym, ◌∙◌, arith, le-leb, take_at}
use Rattle.std.proofs.Math.Path.{ap}
use Rattle.std.proofs.Math.ListN.{length, length-append}
use Rattle.std.proofs.lemmas.List.{length-map}
use Rattle.pcm.specs.declared.PcmFormat.{PcmFormat}
use Rattle.pcm.specs.Formats.{format_allowed}
use Rattle.pcm.specs.Samples.{All}
use Rattle.stage.specs.declared.Stage.{Stage}
use Rattle.stage.specs.declared.StageKind.{StageKind}
use Rattle.stage.specs.Stages.{kinds_of, stage_as_opened, stage_clear}
use Rattle.pipeline.specs.declared.Pipeline.{Pipeline}
use Rattle.pipeline.specs.WritingBack.{stages_of}
use Rattle.block.specs.BlockCall.{suited, legal}
use Rattle.stream.specs.Opened.{RatesReduced, FreshlyOpened}

clear_of_opened : (ks : List StageKind) → map stage_clear (map stage_as_opened ks) ≡ map stage_as_opened ks
clear_of_opened [] = refl
clear_of_opened (k ∷ ks) = ap (λ (l : List Stage). stage_as_opened k ∷ l) (clear_of_opened ks)

kinds_of_opened : (ks : List StageKind) → kinds_of (map stage_as_opened ks) ≡ ks
kinds_of_opened [] = refl
kinds_of_opened (k ∷ ks) = ap (λ (l : List StageKind). k ∷ l) (kinds_of_opened ks)

module _ (f : PcmFormat) (ks : List StageKind) (spare : List Stage) (blocks empties : ℕ) where
  abbrev pub chain_as_opened : Pipeline
  chain_as_opened = record { stages = map stage_as_opened ks ++ spare; count = length ks; format = f; blocks = blocks; empty_blocks = empties }

  stages_as_opened : stages_of chain_as_opened ≡ map stage_as_opened ks
  stages_as_opened = take_at (map stage_as_opened ks) spare (length ks) (length-map ks stage_as_opened)

  pub opened_with : length ks + length spare ≡ 8 → format_allowed f ≡ true → suited f (map stage_as_opened ks) ≡ true → All RatesReduced ks → FreshlyOpened chain_as_opened
  unfolding legal
  opened_with eight allowed suit rates = record {
    places = length-append (map stage_as_opened ks) spare ∙ ap (λ (n : ℕ). n + length spare) (length-map ks stage_as_opened) ∙ eight;
    lawful = rw (le-leb (length ks) 8 (omega arith), allowed, stages_as_opened) suit;
    silent = rw stages_as_opened (sym (clear_of_opened ks));
    rates = rw (stages_as_opened, kinds_of_opened) rates;
  }

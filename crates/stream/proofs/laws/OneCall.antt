-- Laws of the definitions in OneCall. Assumes nothing.
use Rattle.std.specs.Prelude.{◌≡◌, Bool, cond, List, [], ◌∷◌, ◌++◌, map, ℕ, suc, ◌+◌, ◌%◌, ◌≤◌, eqb, take, drop, Ok}
use Rattle.std.proofs.Math.Path.{refl, sym}
use Rattle.std.proofs.Common.{ap, ◌∙◌, suc-ne-zero, zero-add, add-zero, arith, ne_eqb, le-leb, length-append, length-drop, length-take, length-take-le, take_at, drop_at}
use Rattle.std.proofs.Math.Bool.{true, false}
use Rattle.std.proofs.Math.Nat.{min-le_right}
use Rattle.std.proofs.Math.ListN.{length, length-map}
use Rattle.pcm.specs.declared.PcmFormat.{PcmFormat}
use Rattle.pcm.specs.Samples.{Bytes}
use Rattle.pcm.specs.Frames.{Frame, frames_of, bytes_of, written}
use Rattle.pcm.specs.laws.Frames.{front_written, bytes_frames}
use Rattle.stage.specs.declared.Stage.{Stage}
use Rattle.stage.specs.Stages.{stage_out, stage_clear, format_after}
use Rattle.pipeline.specs.declared.Pipeline.{Pipeline}
use Rattle.pipeline.specs.Reset.{reset_call}
use Rattle.answers.specs.declared.Half.{Half}
use Rattle.answers.specs.declared.Half.TheVariants as half
use Rattle.answers.specs.declared.Answer.TheVariants as answer
use Rattle.block.specs.Chain.{chain_out, chain_next, chain_clipped}
use Rattle.block.specs.laws.Chain.{length_chain_next}
use Rattle.turns.specs.Turns.{Halves}
use Rattle.block.specs.BlockCall.{put, passed, halves_after, output_bytes, accepted}
use Rattle.answers.specs.Answers.{last_half, output_answer, front_of, output_of}
use Rattle.pipeline.specs.WritingBack.{stages_of}
use Rattle.block.specs.laws.Bounds.{legal_parts}
use Rattle.block.specs.Turns.{Accepts}
use Rattle.ending.specs.StageEnd.{stage_end}
use Rattle.finish.specs.FinishCall.{chain_end, end_clipped, ended_halves, finish_bytes, finished}
use Rattle.stream.specs.Calls.{output_by, call_output, finish_output, clipped_by}
use Rattle.stream.specs.OneCall.{side_of, side, Moved}

put_side : (i n : ℕ) (out : List ℕ) (h : Halves) → n ≡ length out → take n (side i (put i out h)) ≡ out
put_side i n out h e = go (eqb (i % 2) 0)
  where
    put_by : Bool → Halves
    put_by t = cond t (record { a = written out h.a; b = h.b }) (record { a = h.a; b = written out h.b })

    go : (t : Bool) → take n (cond t (put_by t).a (put_by t).b) ≡ out
    go true = front_written out h.a n e
    go false = front_written out h.b n e

last_side : (s : Stage) (l : List Stage) (i : ℕ) (xs : List Frame) (h : Halves)
    → take (length (bytes_of (chain_out (s ∷ l) xs))) (side (i + length l) (passed i (s ∷ l) xs h)) ≡ bytes_of (chain_out (s ∷ l) xs)
unfolding passed
last_side s [] i xs h = rw add-zero (put_side i (length (bytes_of (stage_out s xs))) (bytes_of (stage_out s xs)) h refl)
last_side s (t ∷ l) i xs h =
    let e : i + suc (length l) ≡ suc i + length l = omega arith in
    rw e (last_side t l (suc i) (stage_out s xs) (put i (bytes_of (stage_out s xs)) h))

last_end_side : (f : PcmFormat) (s : Stage) (l : List Stage) (i : ℕ) (xs : List Frame) (h : Halves)
    → take (length (bytes_of (chain_end f (s ∷ l) xs))) (side (i + length l) (ended_halves i f (s ∷ l) xs h)) ≡ bytes_of (chain_end f (s ∷ l) xs)
unfolding ended_halves chain_end
last_end_side f s [] i xs h = rw add-zero (put_side i (length (bytes_of (stage_end f.channels s xs))) (bytes_of (stage_end f.channels s xs)) h refl)
last_end_side f s (t ∷ l) i xs h =
    let e : i + suc (length l) ≡ suc i + length l = omega arith in
    rw e (last_end_side (format_after f s.kind) t l (suc i) (stage_end f.channels s xs) (put i (bytes_of (stage_end f.channels s xs)) h))

side_by : (t : Bool) (a b : List ℕ) → side_of (cond t half.A half.B) a b ≡ cond t a b
side_by true a b = refl
side_by false a b = refl

-- the last of n + 1 stages
last_half_holds : (n : ℕ) (bytes : List ℕ) (h : Halves) → take (length bytes) (side (0 + n) h) ≡ bytes → take (length bytes) (side_of (last_half (suc n)) h.a h.b) ≡ bytes
last_half_holds n bytes h e =
    let z : 0 + n ≡ n = zero-add n in
    ap (take (length bytes)) (side_by (eqb (n % 2) 0) h.a h.b) ∙ (rw z at e)

half_holds : (l : List Stage) (n : ℕ) (xs : List Frame) (bytes : List ℕ) (h : Halves) → n ≡ length l → bytes_of xs ≡ bytes
    → take (length (bytes_of (chain_out l xs))) (side_of (last_half n) (halves_after l xs bytes h).a (halves_after l xs bytes h).b) ≡ bytes_of (chain_out l xs)
half_holds [] n xs bytes h e q = rw e (ap (λ (k : ℕ). take k (written bytes h.a)) (ap length q) ∙ front_written bytes h.a (length bytes) refl ∙ sym q)
half_holds (s ∷ l) n xs bytes h e q = rw e (last_half_holds (length l) (bytes_of (chain_out (s ∷ l) xs)) (passed 0 (s ∷ l) xs h) (last_side s l 0 xs h))

end_half_holds : (f : PcmFormat) (l : List Stage) (n : ℕ) (h : Halves) → n ≡ length l
    → take (length (bytes_of (chain_end f l []))) (side_of (last_half n) (ended_halves 0 f l [] h).a (ended_halves 0 f l [] h).b) ≡ bytes_of (chain_end f l [])
unfolding chain_end bytes_of
end_half_holds f [] n h e = refl
end_half_holds f (s ∷ l) n h e = rw e (last_half_holds (length l) (bytes_of (chain_end f (s ∷ l) [])) (ended_halves 0 f (s ∷ l) [] h) (last_end_side f s l 0 [] h))

front_is : (bytes l : List ℕ) → take (length bytes) l ≡ bytes → front_of (length bytes) l ≡ bytes
front_is bytes l h =
    let n : length bytes ≤ length l = omega (arith, ap length h, length-take (length bytes) l, min-le_right (length bytes) (length l)) in
    rw (le-leb (length bytes) (length l) n) h

handed_back : (bytes : List ℕ) (side : Half) (a b : List ℕ) → take (length bytes) (side_of side a b) ≡ bytes → output_of side (length bytes) a b ≡ bytes
handed_back bytes half.A a b h = front_is bytes a h
handed_back bytes half.B a b h = front_is bytes b h

-- of a block and of a finish
output_is : {T : Type 0} (bytes : List ℕ) (f : PcmFormat) (t : T) (side : Half) (clipped : ℕ) (a b : List ℕ) → take (length bytes) (side_of side a b) ≡ bytes
    → output_by (Ok (output_answer f t side (length bytes) clipped)) a b ≡ bytes
output_is [] f t half clipped a b h = refl
output_is (x ∷ bytes) f t half clipped a b h = rw (ne_eqb (length (x ∷ bytes)) 0 (suc-ne-zero (length bytes))) (handed_back (x ∷ bytes) half a b h)

clipped_is : {T : Type 0} (f : PcmFormat) (t : T) (side : Half) (len clipped : ℕ) → clipped_by (Ok (output_answer f t side len clipped)) ≡ clipped
clipped_is {T} f t half len clipped = go (eqb len 0)
  where
    go : (none : Bool) → clipped_by (Ok (cond none (answer.NothingYet clipped) (answer.Output f t half len clipped))) ≡ clipped
    go true = refl
    go false = refl

-- ---- the first `count` of eight places, each changed, and the spare ones as they were
module _ (c : Pipeline) (few : c.count ≤ 8) (eight : length c.stages ≡ 8) (kept : List Stage) (long : length kept ≡ length (stages_of c)) where
  kept_long : length kept ≡ c.count
  kept_long = long ∙ length-take-le c.count c.stages (omega arith)

  pub kept_stages : take c.count (kept ++ drop c.count c.stages) ≡ kept
  kept_stages = take_at kept (drop c.count c.stages) c.count kept_long

  pub kept_spare : drop c.count (kept ++ drop c.count c.stages) ≡ drop c.count c.stages
  kept_spare = drop_at kept (drop c.count c.stages) c.count kept_long

  pub kept_eight : length (kept ++ drop c.count c.stages) ≡ 8
  kept_eight = length-append kept (drop c.count c.stages) ∙ omega (arith, kept_long, length-drop c.count c.stages)

module _ (c : Pipeline) (eight : length c.stages ≡ 8) where
  -- an accepted block
  module _ (t : ℕ) (block a b : List ℕ) (w : Accepts c block a b) where
    abbrev xs : List Frame
    xs = frames_of c.format.channels block

    pub few : c.count ≤ 8
    few = (legal_parts c w.chain).few

    pub accepted_moves : Moved c (accepted c t block (record { a = a; b = b })).chain (chain_next (stages_of c) xs)
    unfolding accepted
    accepted_moves =
        let n : length (chain_next (stages_of c) xs) ≡ length (stages_of c) = length_chain_next (stages_of c) xs in
        record {
          stages = kept_stages c few eight (chain_next (stages_of c) xs) n;
          count = refl;
          format = refl;
          spare = kept_spare c few eight (chain_next (stages_of c) xs) n;
          places = kept_eight c few eight (chain_next (stages_of c) xs) n;
        }

    pub accepted_output : Bytes block → call_output (accepted c t block (record { a = a; b = b })) ≡ bytes_of (chain_out (stages_of c) xs)
    unfolding accepted
    accepted_output bytes =
        let n : c.count ≡ length (stages_of c) = sym (length-take-le c.count c.stages (omega (arith, few))) in
        output_is (bytes_of (chain_out (stages_of c) xs)) _ _ (last_half c.count) _ _ _
        (half_holds (stages_of c) c.count xs block (record { a = a; b = b }) n (bytes_frames c.format.channels block w.whole bytes))

    pub accepted_clipped : clipped_by (accepted c t block (record { a = a; b = b })).answer ≡ chain_clipped (stages_of c) xs
    unfolding accepted
    accepted_clipped = clipped_is _ _ _ (output_bytes c block) _

  -- reset
  pub reset_moves : c.count ≤ 8 → Moved c (reset_call c) (map stage_clear (stages_of c))
  unfolding reset_call
  reset_moves few =
      let n : length (map stage_clear (stages_of c)) ≡ length (stages_of c) = length-map (stages_of c) stage_clear in
      rw (le-leb c.count 8 few) (record {
        stages = kept_stages c few eight (map stage_clear (stages_of c)) n;
        count = refl;
        format = refl;
        spare = kept_spare c few eight (map stage_clear (stages_of c)) n;
        places = kept_eight c few eight (map stage_clear (stages_of c)) n;
      })

  -- an accepted finish
  pub finished_output : c.count ≤ 8 → (a b : List ℕ) → finish_output (finished c (record { a = a; b = b })) ≡ bytes_of (chain_end c.format (stages_of c) [])
  unfolding finished
  finished_output few a b =
      let n : c.count ≡ length (stages_of c) = sym (length-take-le c.count c.stages (omega (arith, few))) in
      output_is (bytes_of (chain_end c.format (stages_of c) [])) _ _ (last_half c.count) _ _ _
      (end_half_holds c.format (stages_of c) c.count (record { a = a; b = b }) n)

  pub finished_clipped : (a b : List ℕ) → clipped_by (finished c (record { a = a; b = b })).answer ≡ end_clipped c.format (stages_of c) []
  unfolding finished
  finished_clipped a b = clipped_is _ _ _ (finish_bytes c) _

  pub finished_moves : c.count ≤ 8 → (a b : List ℕ) → Moved c (finished c (record { a = a; b = b })).chain (map stage_clear (stages_of c))
  unfolding finished
  finished_moves few a b = reset_moves few

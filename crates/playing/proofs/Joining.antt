-- A call's output joined on to what is gathered. Assumes nothing.
use Rattle.std.specs.Prelude.{Ok, Err, Result}
use Rattle.pcm.specs.Refusals.{Verdict, verdict_of}
use mathlib.Core.Path.{◌≡◌, refl, sym, ap, ◌∙◌}
use mathlib.Core.Bool.{Bool, true, false, cond}
use mathlib.Core.List.{List, [], ◌++◌, append-nil}
use Prim.Native.Nat.{ℕ, ◌+◌, ◌-◌, ◌≤◌}
use native.Mathlib.Omega.{arith}
use borrow.Author.Tests.{leb-true}
use borrow.Author.Rules.{part_to_end}
use borrow.Rule.Slice.PartMut.{put_mid}
use lib.Dec.{leb}
use lib.ListN.{length, take, drop, length-append, length-drop, drop_of_length-le}
use Rattle.pcm.specs.declared.Error.{Error}
use Rattle.pcm.specs.declared.Error.TheVariants.{TooLong}
use Rattle.pcm.specs.Frames.{written}
use Rattle.pcm.specs.laws.Frames.{length_written}
use Rattle.pcm.specs.laws.Written.{written_part}
use Rattle.pipeline.specs.declared.Pipeline.{Pipeline}
use Rattle.answers.specs.declared.Answer.{Answer}
use Rattle.stream.specs.Calls.{output_by}
use Rattle.playing.specs.Playing.{Playing, Played, going, stopped, gathering}
use Rattle.playing.specs.Steps.{Joined, appended, joined_by}

-- ---- the part from n on, put back
put_back : (n : ℕ) (piece out l : List ℕ) → l ≡ written piece (take (length out - n) (drop n out)) → put_mid n (length out - n) out l ≡ take n out ++ written piece (drop n out)
put_back n piece out l h =
    let e : drop (length out - n) (drop n out) ≡ [] = drop_of_length-le (drop n out) {i = length out - n} (omega (arith, length-drop n out)) in
    ap (λ (x : List ℕ). take n out ++ x) (rw e (append-nil l) ∙ h ∙ ap (written piece) (part_to_end out n))

put_behind : (got piece out₀ out : List ℕ) (n : ℕ) → n ≡ length got → out ≡ written got out₀ → take n out ++ written piece (drop n out) ≡ written (got ++ piece) out₀
put_behind got piece out₀ out n e q =
    let l : List ℕ = written piece (take (length out - n) (drop n out)) in
    sym (put_back n piece out l refl) ∙ written_part got piece out₀ out l n e q refl

-- ---- n bytes `got` are gathered at the front of `out`
pub record Holds (got out₀ : List ℕ) (n : ℕ) (out : List ℕ) : Type 0 where
  pub many : n ≡ length got
  pub fits : length got ≤ length out₀
  pub placed : out ≡ written got out₀

module _ {got out₀ : List ℕ} {n : ℕ} {out : List ℕ} (h : Holds got out₀ n out) where
  holds-length : length out ≡ length out₀
  holds-length = ap length h.placed ∙ length_written got out₀ h.fits

abbrev pub playing : Pipeline → List ℕ → List ℕ → List ℕ → Playing
playing c a b sound = record { chain = c; a = a; b = b; sound = sound }

-- what a call's output leaves: it is joined on, or what is gathered stays and the run is stopped
pub data After (got out₀ output : List ℕ) (c : Pipeline) (a b : List ℕ) (played : Played) (j : Joined) : Type 0 where
  onward : played ≡ going (playing c a b (got ++ output)) → (m : ℕ) → j.gathered ≡ Ok m → Holds (got ++ output) out₀ m j.out → After got out₀ output c a b played j
  ended : (e : Error) → played ≡ stopped e (playing c a b got) → j.gathered ≡ Err e → j.out ≡ written got out₀ → After got out₀ output c a b played j

module _ (output : List ℕ) {got out₀ : List ℕ} {n : ℕ} {out : List ℕ} (h : Holds got out₀ n out) (c : Pipeline) (a b : List ℕ) where
  appended_after : (t : Bool) → leb (length got + length output) (length out₀) ≡ t
      → After got out₀ output c a b (cond t (going (playing c a b (got ++ output))) (stopped TooLong (playing c a b got)))
      (cond t (record { gathered = Ok (n + length output); out = take n out ++ written output (drop n out) }) (record { gathered = Err TooLong; out = out }))
  appended_after true e =
      let l : length (got ++ output) ≡ length got + length output = length-append got output in
      onward refl (n + length output) refl (record {
        many = omega (arith, l, h.many);
        fits = omega (arith, l, leb-true (length got + length output) (length out₀) e);
        placed = put_behind got output out₀ out n h.many h.placed;
      })
  appended_after false e = ended TooLong refl refl h.placed

  same_test : leb (n + length output) (length out) ≡ leb (length got + length output) (length out₀)
  same_test = rw (h.many, holds-length h)

  pub joins : (v : Verdict) → After got out₀ output c a b (gathering (length out₀) v output (playing c a b got)) (joined_by v n output out)
  joins (Err e) = ended e refl refl h.placed
  joins (Ok _) = rw same_test (appended_after (leb (length got + length output) (length out₀)) refl)

-- ---- the output that an answer names, joined on: it was refused, or brought something
module _ {T : Type 0} (answer : Result (Answer T) Error) (a b : List ℕ) (n : ℕ) (out : List ℕ) where
  pub joined_refused : (e : Error) → answer ≡ Err e → record { gathered = Err e; out = out } ≡ joined_by (verdict_of answer) n (output_by answer a b) out
  joined_refused e h = rw h

  pub joined_accepted : (x : Answer T) → answer ≡ Ok x → (output : List ℕ) → output ≡ output_by (Ok x) a b → (j : Joined) → j ≡ appended n output out → j ≡ joined_by (verdict_of answer) n (output_by answer a b) out
  joined_accepted x h output o j q = rw (h, ← o) q

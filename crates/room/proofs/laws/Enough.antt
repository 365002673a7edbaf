-- The figures of the walk are those of the calls: laws of `Smallest`, and of the walk with halves lent. Assumes nothing.
use Rattle.std.specs.Prelude.{◌≡◌, Bool, ◌&&◌, ℕ, ◌-◌, ◌*◌, ◌≤◌, ◌<◌, leb, length, Option, None, Some, Ok, Err}
use Rattle.std.proofs.Math.Path.{refl, sym, ap}
use Rattle.std.proofs.Common.{◌∙◌, le_refl, arith, eq-eqb}
use Rattle.std.proofs.Math.Bool.{true, false}
use Rattle.std.proofs.Math.Decide.{dec_lt}
use Rattle.pcm.specs.declared.PcmFormat.{PcmFormat}
use Rattle.pcm.specs.declared.Error.TheVariants.{Unsupported, BufferTooSmall}
use Rattle.pcm.specs.Formats.{format_allowed}
use Rattle.pcm.specs.Refusals.{ask, and_then, Verdict}
use Rattle.pipeline.specs.declared.Pipeline.{Pipeline}
use Rattle.pipeline.specs.WritingBack.{stages_of}
use Rattle.questions.specs.declared.Question.{Question}
use Rattle.questions.specs.declared.Question.TheVariants.{Block, Finish}
use Rattle.questions.specs.declared.Walk.{Walk}
use Rattle.questions.specs.Walk.{head_legal, same_format, size_verdict, begun, walked, along, short_verdict, verdict_from}
use Rattle.block.specs.BlockCall.{suited, legal, block_verdict}
use Rattle.block.specs.laws.Beforehand.{IsShort, Fits, Alike, along_fits, begun_fits, along_alike}
use Rattle.block.specs.laws.Bounds.{legal_parts}
use Rattle.block.specs.laws.Counts.{no_stages, some_stages, not_none}
use Rattle.block.specs.laws.Walking.{if_suited, begins, walked_is, verdict_is}
use Rattle.finish.specs.FinishCall.{finish_verdict}
use Rattle.finish.specs.Turns.{end_from}
use Rattle.finish.specs.laws.Stepping.{end_is}
use Rattle.room.specs.declared.Room.{Room}
use Rattle.room.specs.Room.{found, room_answer}
use Rattle.room.specs.Beforehand.{TooSmall, Smallest}

-- ---- of two smallest halves neither is the larger: the other would be accepted and refused
pub no_larger : (verdict : ℕ → Verdict) (m n : ℕ) → Smallest verdict m → Smallest verdict n → m ≤ n
no_larger verdict m n p q = go (dec_lt n m)
  where
    go : Dec (n < m) → m ≤ n
    go (yes l) =
        let a : verdict n ≡ Ok tt = q.enough n (le_refl n) in
        let b = (p.too_small n l).verdict in
        let z : ◌≡◌ {A = ℕ} 0 1 = cc in omega arith
    go (no l) = omega arith

-- ---- from a walk whose first room short is the verdict's, and whose largest room is `half` whatever the halves
module _ (verdict : ℕ → Verdict) (walk : ℕ → Walk) (half : ℕ)
    (is : (m : ℕ) → verdict m ≡ short_verdict (walk m).short) (fits : (m : ℕ) → Fits m (walk m)) (largest : (m : ℕ) → (walk m).largest ≡ half) where
  held : (m : ℕ) (short : Option ℕ) → verdict m ≡ short_verdict short → IsShort m (walk m).largest short → half ≤ m → verdict m ≡ Ok tt
  held m None e p h = e
  held m (Some room) e p h = absurd (let b : ⊥ = omega (arith, p.0, p.1, largest m) in b)

  found_short : (m : ℕ) (short : Option ℕ) → verdict m ≡ short_verdict short → IsShort m (walk m).largest short → m < half → TooSmall (verdict m) m half
  found_short m None e p l = absurd (let b : ⊥ = omega (arith, p, largest m) in b)
  found_short m (Some room) e p l = record { first = room; verdict = e; above = p.0; most = omega (arith, p.1, largest m) }

  too_small : (m : ℕ) → m < half → TooSmall (verdict m) m half
  too_small m l = found_short m (walk m).short (is m) (fits m).short l

  pub smallest_is : Smallest verdict half
  smallest_is = record {
    enough = λ m h. held m (walk m).short (is m) (fits m).short h;
    one_less = λ some.
        let t = too_small (half - 1) (omega arith) in
        let e : t.first ≡ half = omega (arith, t.above, t.most) in
        t.verdict ∙ ap (λ (k : ℕ). Err (BufferTooSmall (2 * k))) e;
    too_small = too_small;
  }

-- ---- what an answer says
pub known_parts : (v : Verdict) (w : Walk) (frames half : ℕ) → room_answer v w ≡ Ok (record { frames = frames; half = half }) → (v ≡ Ok tt) × ((w.frames ≡ frames) × (w.largest ≡ half))
known_parts (Ok _) w frames half e =
    let k : ◌≡◌ {A = Room} (record { frames = w.frames; half = w.largest }) (record { frames = frames; half = half }) = cc in
    (refl, (ap (λ (r : Room). r.frames) k, ap (λ (r : Room). r.half) k))
known_parts (Err x) w frames half e = (cc, (cc, cc))

same_formats : (f : PcmFormat) → same_format f f ≡ true
same_formats f = rw (eq-eqb f.rate f.rate refl, eq-eqb f.channels f.channels refl)

-- ---- a legal chain of eight places
module _ (c : Pipeline) (lawful : legal c ≡ true) where
  pub head : head_legal c.format c.count ≡ true
  unfolding legal
  head = go (leb c.count 8) (format_allowed c.format) (suited c.format (stages_of c)) lawful
    where
      go : (t u v : Bool) → (t && (u && v)) ≡ true → (t && u) ≡ true
      go true true v e = refl
      go true false v e = e
      go false u v e = e

  -- the walk with halves lent, the shorter of m bytes
  module _ (q : Question) (size : ℕ) where
    abbrev pub walk_with : ℕ → Walk
    walk_with m = along q m (begun c.format c.count size m) (stages_of c)

    pub start_suited : (m : ℕ) → suited (begun c.format c.count size m).format (stages_of c) ≡ true
    start_suited m = ap (λ (f : PcmFormat). suited f (stages_of c)) (begins c.format c.count size m).format ∙ (legal_parts c lawful).suit

    walked_with : (m : ℕ) → walked q m (begun c.format c.count size m) (stages_of c) ≡ Ok (walk_with m)
    walked_with m = walked_is q m (begun c.format c.count size m) (stages_of c) ∙ ap (λ (t : Bool). if_suited t (walk_with m)) (start_suited m)

    pub fits_with : (m : ℕ) → Fits m (walk_with m)
    fits_with m = along_fits q m (begun c.format c.count size m) (stages_of c) (begun_fits c.format c.count size m)

    start_alike : (m : ℕ) → Alike (begun c.format c.count size m) (begun c.format c.count size 0)
    unfolding begun
    start_alike m = record { format = refl; frames = refl; largest = refl }

    pub largest_with : (m : ℕ) → (walk_with m).largest ≡ (found q c size).largest
    unfolding found
    largest_with m = (along_alike q m 0 (begun c.format c.count size m) (begun c.format c.count size 0) (stages_of c) (start_alike m)).largest

  module _ (eight : length c.stages ≡ 8) (size : ℕ) (sized : size_verdict c.format size ≡ Ok tt) where
    block_with : (m : ℕ) → block_verdict c c.format size m ≡ short_verdict (walk_with Block size m).short
    unfolding verdict_from
    block_with m =
        sym (verdict_is c c.format size m head (no_stages c) (λ z. not_none (stages_of c) (some_stages c (legal_parts c lawful).few z eight)))
        ∙ ap (verdict_from c.format c.format size) (walked_with Block size m)
        ∙ ap (λ (v : Verdict). and_then v (ask (same_format c.format c.format) Unsupported (short_verdict (walk_with Block size m).short))) sized
        ∙ ap (λ (t : Bool). ask t Unsupported (short_verdict (walk_with Block size m).short)) (same_formats c.format)

    pub block_smallest : Smallest (block_verdict c c.format size) (found Block c size).largest
    block_smallest = smallest_is (block_verdict c c.format size) (walk_with Block size) (found Block c size).largest block_with (fits_with Block size) (largest_with Block size)

  finish_with : (m : ℕ) → finish_verdict c m ≡ short_verdict (walk_with Finish 0 m).short
  unfolding end_from
  finish_with m = sym (end_is c m head) ∙ ap end_from (walked_with Finish 0 m)

  pub finish_smallest : Smallest (finish_verdict c) (found Finish c 0).largest
  finish_smallest = smallest_is (finish_verdict c) (walk_with Finish 0) (found Finish c 0).largest finish_with (fits_with Finish 0) (largest_with Finish 0)

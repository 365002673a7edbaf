-- The parts of a legal chain; no stage is reached by more frames than fit; halves of the largest room hold every stage's. Assumes nothing.
use Rattle.std.specs.Prelude.{◌≡◌, refl, Bool, true, false, cond, ◌&&◌, List, [], ◌∷◌, ℕ, ◌+◌, ◌-◌, ◌*◌, ◌≤◌, ◌<◌, eqb, leb, ltb, Ok}
use Rattle.std.proofs.Common.{subst, le_antisymm, le_refl, le_trans, div-mul-le_self, mul-le-mul, mul-le-mul_left, le_of_mul-le-mul_right, leb-true, leb-false, le-leb, ltb-true}
use Rattle.std.proofs.Math.Nat.{mul-le-mul_right}
use native.Mathlib.Omega.{arith}
use Rattle.pcm.specs.declared.PcmFormat.{PcmFormat}
use Rattle.pcm.specs.declared.Error.TheVariants.{BufferTooSmall}
use Rattle.pcm.specs.Formats.{format_allowed, rate_allowed, channels_allowed}
use Rattle.pcm.specs.Refusals.{ask}
use Rattle.rates.specs.Counting.{ceil_div}
use Rattle.rates.specs.laws.Counting.{ceil_reach, ceil_least}
use Rattle.rates.specs.Rates.{room_frames}
use Rattle.stage.specs.declared.Stage.{Stage}
use Rattle.stage.specs.declared.StageKind.{StageKind}
use Rattle.stage.specs.declared.StageKind.TheVariants as kind
use Rattle.stage.specs.declared.SoundMemory.{SoundMemory}
use Rattle.stage.specs.Stages.{format_after}
use Rattle.stage.specs.Rooms.{stage_suits, frames_out, frames_wanted, room_wanted, Resamples, Bounded}
use Rattle.stage.specs.laws.Rooms.{resamples, suits_bounded, wanted_holds}
use Rattle.pcm.specs.laws.Tests.{both}
use Rattle.pipeline.specs.declared.Pipeline.{Pipeline}
use Rattle.block.specs.BlockCall.{suited, legal, rooms_verdict, largest_room}
use Rattle.pipeline.specs.WritingBack.{stages_of}
use Rattle.questions.specs.Walk.{larger}
use Rattle.block.specs.Bounds.{Legal}

-- ---- the stages one at a time
module _ (f : PcmFormat) (s : Stage) (rest : List Stage) (h : suited f (s ∷ rest) ≡ true) where
  pub suited_first : stage_suits f s.kind s.memory ≡ true
  unfolding suited
  suited_first = (both (stage_suits f s.kind s.memory) (suited (format_after f s.kind) rest) h).0

  pub suited_rest : suited (format_after f s.kind) rest ≡ true
  unfolding suited
  suited_rest = (both (stage_suits f s.kind s.memory) (suited (format_after f s.kind) rest) h).1

-- ---- the bound
module _ (first : ℕ) (low : 0 < first) (high : first ≤ 384000) where
  grown : (n m i o K : ℕ) → 0 < i → 0 < o → n * first ≤ K * i → m * i ≤ n * o + 2 * i → m * first ≤ (K + 768000) * o
  grown n m i o K hi ho h l =
      le_of_mul-le-mul_right {k = i}
      (omega (arith, mul-le-mul_right first l, mul-le-mul_right o h, mul-le-mul_right i (mul-le-mul high (let u : 1 ≤ o = ho in u)), mul-le-mul_left i high))
      hi

  -- n frames of this rate reach stage i + 1
  pub few_frames : {rate i n : ℕ} → i ≤ 8 → rate ≤ 384000 → n * first ≤ (8192 + 768000 * i) * rate → n ≤ 2400000000000
  few_frames {rate} {i} {n} h r p =
      let k : 8192 + 768000 * i ≤ 6152192 = omega arith in
      omega (arith, mul-le-mul k r, mul-le-mul_left n (let u : 1 ≤ first = low in u))

  -- one stage further, with as many frames as it wants room for, or fewer
  pub next_bound : (f : PcmFormat) (k : StageKind) (m : SoundMemory) (i n t : ℕ) → stage_suits f k m ≡ true → n * first ≤ (8192 + 768000 * i) * f.rate → f.rate ≤ 384000 → t ≤ frames_wanted k n
      → (t * first ≤ (8192 + 768000 * (i + 1)) * (format_after f k).rate) × ((format_after f k).rate ≤ 384000)
  unfolding frames_wanted room_frames
  next_bound f k m i n t h b r l = go k h l
    where
      more : (8192 + 768000 * i) * f.rate ≤ (8192 + 768000 * (i + 1)) * f.rate
      more = mul-le-mul_right f.rate (let w : 8192 + 768000 * i ≤ 8192 + 768000 * (i + 1) = omega arith in w)

      same : t ≤ n → (t * first ≤ (8192 + 768000 * (i + 1)) * f.rate) × (f.rate ≤ 384000)
      same l = (le_trans (mul-le-mul_right first l) (le_trans b more), r)

      wider : 8192 + 768000 * i + 768000 ≡ 8192 + 768000 * (i + 1)
      wider = omega arith

      go : (k : StageKind) → stage_suits f k m ≡ true → t ≤ frames_wanted k n → (t * first ≤ (8192 + 768000 * (i + 1)) * (format_after f k).rate) × ((format_after f k).rate ≤ 384000)
      go (kind.Gain g) h l = same l
      go kind.MonoToStereo h l = same l
      go kind.StereoToMono h l = same l
      go (kind.Resample q) h l =
          let w : Resamples f q m = resamples f q m h in
          let j : ℕ = q.in_rate in
          let o : ℕ = q.out_rate in
          let u : t * q.in_rate ≤ n * q.out_rate + 2 * q.in_rate = omega (arith, mul-le-mul_right q.in_rate l, div-mul-le_self (n * q.out_rate + (q.in_rate - 1)) q.in_rate) in (
            subst (λ (x : ℕ). t * first ≤ x * q.out_rate) wider
                (grown n t q.in_rate q.out_rate (8192 + 768000 * i) w.rates.input_rate.0 w.rates.output_rate.0 (subst (λ (x : ℕ). n * first ≤ (8192 + 768000 * i) * x) w.reached b) u),
            w.rates.output_rate.1,
          )
      go (kind.DcBlock c) h l = same l
      go (kind.Biquad c) h l = same l

pub legal_parts : (c : Pipeline) → legal c ≡ true → Legal c
unfolding legal format_allowed rate_allowed channels_allowed
legal_parts c h =
    let p = both (leb c.count 8) (format_allowed c.format && suited c.format (stages_of c)) h in
    let q = both (format_allowed c.format) (suited c.format (stages_of c)) p.1 in
    let a = both (channels_allowed c.format.channels) (rate_allowed c.format.rate) q.0 in
    let b = both (ltb 0 c.format.channels) (leb c.format.channels 2) a.0 in
    let d = both (ltb 0 c.format.rate) (leb c.format.rate 384000) a.1 in
    record {
      few = leb-true _ _ p.0;
      rate = (ltb-true _ _ d.0, leb-true _ _ d.1);
      channels = (ltb-true _ _ b.0, leb-true _ _ b.1);
      suit = q.1;
    }

-- ---- scratch_bytes suffices
pub larger_left : (a b : ℕ) → a ≤ larger a b
unfolding larger
larger_left a b = go (leb a b) refl
  where
    go : (t : Bool) → leb a b ≡ t → a ≤ cond t b a
    go true e = leb-true a b e
    go false e = le_refl a

pub larger_right : (a b : ℕ) → b ≤ larger a b
unfolding larger
larger_right a b = go (leb a b) refl
  where
    go : (t : Bool) → leb a b ≡ t → b ≤ cond t b a
    go true e = le_refl b
    go false e = let l : b < a = leb-false a b e in omega arith

pub larger_least : (a b m : ℕ) → a ≤ m → b ≤ m → larger a b ≤ m
unfolding larger
larger_least a b m h k = go (leb a b)
  where
    go : (t : Bool) → cond t b a ≤ m
    go true = k
    go false = h

pub larger_assoc : (a b c : ℕ) → larger a (larger b c) ≡ larger (larger a b) c
larger_assoc a b c =
    le_antisymm
    (larger_least a (larger b c) (larger (larger a b) c) (le_trans (larger_left a b) (larger_left (larger a b) c))
    (larger_least b c (larger (larger a b) c) (le_trans (larger_right a b) (larger_left (larger a b) c)) (larger_right (larger a b) c)))
    (larger_least (larger a b) c (larger a (larger b c)) (larger_least a b (larger a (larger b c)) (larger_left a (larger b c)) (le_trans (larger_left b c) (larger_right a (larger b c))))
    (le_trans (larger_right b c) (larger_right a (larger b c))))

pub larger-zero : (a : ℕ) → larger a 0 ≡ a
larger-zero a = le_antisymm (larger_least a 0 a (le_refl a) (omega arith)) (larger_left a 0)

wanted_mono : (k : StageKind) (n m : ℕ) → Bounded k → n ≤ m → frames_wanted k n ≤ frames_wanted k m
unfolding frames_wanted room_frames
wanted_mono (kind.Gain g) n m b h = h
wanted_mono kind.MonoToStereo n m b h = h
wanted_mono kind.StereoToMono n m b h = h
wanted_mono (kind.Resample q) n m b h =
    let l : ceil_div (n * q.out_rate) q.in_rate ≤ ceil_div (m * q.out_rate) q.in_rate =
    ceil_least q.in_rate b.input_rate.0 (n * q.out_rate) (ceil_div (m * q.out_rate) q.in_rate)
    (le_trans (mul-le-mul_right q.out_rate h) (ceil_reach q.in_rate b.input_rate.0 (m * q.out_rate))) in
    omega (arith, l)
wanted_mono (kind.DcBlock c) n m b h = h
wanted_mono (kind.Biquad c) n m b h = h

wanted_room : (f : PcmFormat) (k : StageKind) (n m : ℕ) → frames_wanted k n ≤ frames_wanted k m → room_wanted f k n ≤ room_wanted f k m
unfolding room_wanted
wanted_room f k n m w = mul-le-mul_right ((format_after f k).channels * 2) w

-- in any state: halves of the largest room hold every stage's
pub room_suffices : (f : PcmFormat) (l : List Stage) (n m short : ℕ) → suited f l ≡ true → n ≤ m → largest_room f l m ≤ short → rooms_verdict f l n short ≡ Ok tt
unfolding rooms_verdict largest_room
room_suffices f [] n m short u h k = refl
room_suffices f (s ∷ l) n m short u h k =
    let a = suited_first f s l u in
    let w : frames_wanted s.kind n ≤ frames_wanted s.kind m = wanted_mono s.kind n m (suits_bounded f s.kind s.memory a) h in
    let r : room_wanted f s.kind n ≤ short = le_trans (wanted_room f s.kind n m w) (le_trans (larger_left (room_wanted f s.kind m) (largest_room (format_after f s.kind) l (frames_wanted s.kind m))) k) in
    let i : rooms_verdict (format_after f s.kind) l (frames_out s.kind s.memory n) short ≡ Ok tt =
    room_suffices (format_after f s.kind) l (frames_out s.kind s.memory n) (frames_wanted s.kind m) short (suited_rest f s l u)
    (le_trans (wanted_holds f s.memory s.kind n a) w)
    (le_trans (larger_right (room_wanted f s.kind m) (largest_room (format_after f s.kind) l (frames_wanted s.kind m))) k) in
    go (eqb n 0) r i
  where
    go : (t : Bool) → room_wanted f s.kind n ≤ short → rooms_verdict (format_after f s.kind) l (frames_out s.kind s.memory n) short ≡ Ok tt
        → cond t (Ok tt) (ask (leb (room_wanted f s.kind n) short) (BufferTooSmall (2 * room_wanted f s.kind n)) (rooms_verdict (format_after f s.kind) l (frames_out s.kind s.memory n) short)) ≡ Ok tt
    go true r i = refl
    go false r i = rw (le-leb (room_wanted f s.kind n) short r) i

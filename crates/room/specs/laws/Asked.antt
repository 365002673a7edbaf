-- A block of n frames asked by its size in bytes, and what the walk answers: laws of `block_room` and `finish_room`. Assumes nothing.
use Rattle.std.specs.Prelude.{◌≡◌, refl, Bool, true, false, cond, ◌&&◌, ℕ, zero, suc, ◌*◌, ◌≤◌, ◌<◌, leb, ltb, Result, Ok, Err}
use Rattle.std.proofs.Common.{sym, ◌∙◌, mul-div_cancel, arith, leb-true, leb-false, eq-eqb, lt-ltb}
use Rattle.std.proofs.Math.Path.{ap}
use Rattle.std.proofs.Math.Nat.{mul-mod_left}
use Rattle.pcm.specs.declared.PcmFormat.{PcmFormat}
use Rattle.pcm.specs.declared.Error.{Error}
use Rattle.pcm.specs.declared.Error.TheVariants.{InvalidFormat, InvalidGeometry, TooLong}
use Rattle.pcm.specs.Refusals.{ask, Verdict}
use Rattle.pipeline.specs.declared.Pipeline.{Pipeline}
use Rattle.pipeline.specs.WritingBack.{stages_of}
use Rattle.questions.specs.declared.Question.{Question}
use Rattle.questions.specs.declared.Question.TheVariants.{Block}
use Rattle.questions.specs.declared.Walk.{Walk}
use Rattle.questions.specs.Walk.{head_legal, size_verdict, begun, walked, along}
use Rattle.block.specs.BlockCall.{legal, suited}
use Rattle.block.specs.laws.Walking.{begins, legal_is, if_suited, walked_is}
use Rattle.room.specs.Asked.{asked_frames, asked_bytes}
use Rattle.room.specs.Room.{found, if_legal, finish_found, frames_verdict, room_answer, block_room, finish_room}

-- ---- the size of n frames is asked as n is
some_bytes : (n w : ℕ) → 0 < w → ltb 0 (n * w) ≡ ltb 0 n
some_bytes zero w h = ap (ltb 0) (let e : zero * w ≡ 0 = omega arith in e)
some_bytes (suc n) w h = lt-ltb 0 (suc n * w) (omega arith) ∙ sym (lt-ltb 0 (suc n) (omega arith))

pub size_frames : (f : PcmFormat) (n : ℕ) → 0 < f.channels → size_verdict f (n * (f.channels * 2)) ≡ frames_verdict n
unfolding size_verdict
size_frames f n h =
    let w : 0 < f.channels * 2 = omega arith in
    rw (some_bytes n (f.channels * 2) w, eq-eqb _ _ (mul-mod_left n (f.channels * 2)), mul-div_cancel n w) (go (ltb 0 n))
  where
    go : (t : Bool) → ask (t && true) InvalidGeometry (ask (leb n 8192) TooLong (Ok tt)) ≡ ask t InvalidGeometry (ask (leb n 8192) TooLong (Ok tt))
    go true = refl
    go false = refl

asked_verdict : (n : ℕ) → frames_verdict (asked_frames n) ≡ frames_verdict n
asked_verdict n = go (leb n 8192) refl
  where
    go : (t : Bool) → leb n 8192 ≡ t → frames_verdict (cond t n 8193) ≡ frames_verdict n
    go true e = refl
    go false e = let l : 8192 < n = leb-false n 8192 e in rw (lt-ltb 0 n (omega arith), e)

pub asked_most : (n : ℕ) → asked_frames n ≤ 8193
asked_most n = go (leb n 8192) refl
  where
    go : (t : Bool) → leb n 8192 ≡ t → cond t n 8193 ≤ 8193
    go true e = omega (arith, leb-true n 8192 e)
    go false e = omega arith

asked_all : (n : ℕ) → frames_verdict n ≡ Ok tt → asked_frames n ≡ n
asked_all n h = go (ltb 0 n) (leb n 8192) h
  where
    go : (t u : Bool) → ask t InvalidGeometry (ask u TooLong (Ok tt)) ≡ Ok tt → cond u n 8193 ≡ n
    go true true e = refl
    go true false e = cc
    go false u e = cc

-- ---- the walk comes to its end where the chain is legal
pub walked_found : (q : Question) (c : Pipeline) (size : ℕ) (start : Walk) (r : Result Walk Error) → head_legal c.format c.count ≡ true → start ≡ begun c.format c.count size 0
    → r ≡ walked q 0 start (stages_of c) → r ≡ if_legal c (found q c size)
unfolding found
walked_found q c size start r head e k =
    k ∙ ap (λ (w : Walk). walked q 0 w (stages_of c)) e ∙ walked_is q 0 (begun c.format c.count size 0) (stages_of c)
    ∙ ap (λ (t : Bool). if_suited t (along q 0 (begun c.format c.count size 0) (stages_of c)))
    (ap (λ (f : PcmFormat). suited f (stages_of c)) (begins c.format c.count size 0).format ∙ sym (legal_is c size head))

found_ok : (c : Pipeline) (w v : Walk) → if_legal c w ≡ Ok v → (legal c ≡ true) × (v ≡ w)
found_ok c w v = go (legal c)
  where
    go : (t : Bool) → if_suited t w ≡ Ok v → (t ≡ true) × (v ≡ w)
    go true e = (refl, cc)
    go false e = (cc, cc)

found_err : (c : Pipeline) (w : Walk) (x : Error) → if_legal c w ≡ Err x → (legal c ≡ false) × (x ≡ InvalidFormat)
found_err c w x = go (legal c)
  where
    go : (t : Bool) → if_suited t w ≡ Err x → (t ≡ false) × (x ≡ InvalidFormat)
    go true e = (cc, cc)
    go false e = (refl, cc)

-- ---- what it answers
same_answer : (v : Verdict) (w x : Walk) → (v ≡ Ok tt → w ≡ x) → room_answer v w ≡ room_answer v x
same_answer (Ok _) w x h = ap (room_answer (Ok tt)) (h refl)
same_answer (Err e) w x h = refl

module _ (c : Pipeline) (n size : ℕ) (z : size ≡ asked_bytes c.format n) (r : Result Walk Error) (e : r ≡ if_legal c (found Block c size)) where
  by_size : (w : Walk) (v : Verdict) → 0 < c.format.channels → r ≡ Ok w → v ≡ size_verdict c.format size → room_answer v w ≡ block_room c n
  unfolding block_room
  by_size w v channels k s =
      let p = found_ok c _ w (sym e ∙ k) in
      let m : v ≡ frames_verdict n = s ∙ ap (size_verdict c.format) z ∙ size_frames c.format (asked_frames n) channels ∙ asked_verdict n in
      ap (λ (x : Verdict). room_answer x w) m
      ∙ same_answer (frames_verdict n) w (found Block c (n * (c.format.channels * 2)))
      (λ h. p.1 ∙ ap (found Block c) (z ∙ ap (λ (k : ℕ). k * (c.format.channels * 2)) (asked_all n h)))
      ∙ ap (λ (t : Bool). room_answer (ask t InvalidFormat (frames_verdict n)) (found Block c (n * (c.format.channels * 2)))) (sym p.0)

  pub block_room_is : (w : Walk) (v : Verdict) → 0 < c.format.channels → r ≡ Ok w → v ≡ size_verdict c.format size → v ≡ Ok tt
      → Ok (record { frames = w.frames; half = w.largest }) ≡ block_room c n
  block_room_is w v channels k s y = ap (λ (x : Verdict). room_answer x w) (sym y) ∙ by_size w v channels k s

  pub block_room_sized : (w : Walk) (v : Verdict) (x : Error) → 0 < c.format.channels → r ≡ Ok w → v ≡ size_verdict c.format size → v ≡ Err x → Err x ≡ block_room c n
  block_room_sized w v x channels k s y = ap (λ (x : Verdict). room_answer x w) (sym y) ∙ by_size w v channels k s

  pub block_room_unsuited : (x : Error) → r ≡ Err x → Err x ≡ block_room c n
  unfolding block_room
  block_room_unsuited x k = let p = found_err c _ x (sym e ∙ k) in rw (p.0, p.1) refl

module _ (c : Pipeline) (r : Result Walk Error) (e : r ≡ if_legal c (finish_found c)) where
  pub finish_room_is : (w : Walk) → r ≡ Ok w → Ok (record { frames = w.frames; half = w.largest }) ≡ finish_room c
  unfolding finish_room
  finish_room_is w k = let p = found_ok c _ w (sym e ∙ k) in rw (p.0, p.1) refl

  pub finish_room_unsuited : (x : Error) → r ≡ Err x → Err x ≡ finish_room c
  unfolding finish_room
  finish_room_unsuited x k = let p = found_err c _ x (sym e ∙ k) in rw (p.0, p.1) refl

-- a chain that no call returned
module _ (c : Pipeline) (h : legal c ≡ false) where
  pub block_room_refused : (n : ℕ) → Err InvalidFormat ≡ block_room c n
  unfolding block_room
  block_room_refused n = rw h

  pub finish_room_refused : Err InvalidFormat ≡ finish_room c
  unfolding finish_room
  finish_room_refused = rw h

-- What an accepted block shows, the stages from stage i + 1 on, and the room question one stage at a time. Assumes nothing.
use Rattle.std.specs.Prelude.{◌≡◌, refl, List, [], ◌∷◌, ℕ, ◌+◌, ◌*◌, ◌/◌, ◌≤◌, ◌<◌, leb, ltb, length, take, drop, get_or, Ok, Err}
use Rattle.std.proofs.Common.{sym, ap₂, ◌∙◌, add-one, arith, drop_of_length-le, length-take, drop-cons, get_or-take, length-take-le}
use borrow.Author.Tests.{le-leb, lt-leb, eq-eqb, ne_eqb, leb-true, ltb-true, eqb-true}
use Rattle.pcm.specs.declared.PcmFormat.{PcmFormat}
use Rattle.pcm.specs.declared.Error.TheVariants.{InvalidFormat, Unsupported, BufferTooSmall, InvalidGeometry, TooLong}
use Rattle.stage.specs.declared.Stage.{Stage}
use Rattle.stage.specs.Stages.{format_after}
use Rattle.pcm.specs.laws.Tests.{both}
use Rattle.stage.specs.Rooms.{frames_out, room_wanted}
use Rattle.pipeline.specs.declared.Pipeline.{Pipeline}
use Rattle.block.specs.BlockCall.{legal, rooms_verdict, block_verdict, shorter}
use Rattle.questions.specs.Walk.{whole_frames, same_format}
use Rattle.block.specs.Turns.{Accepts}
use Rattle.pcm.specs.laws.Refusals.{ask_yes}

-- ---- the stages from stage i + 1 on
pub stage_at_lem : {A : Type 0} (l : List A) (count i : ℕ) (d : A) → i < count → count ≤ length l → drop i (take count l) ≡ get_or l i d ∷ drop (i + 1) (take count l)
stage_at_lem {A} l count i d h k =
    let e : length (take count l) ≡ count = length-take-le count l k in
    drop-cons (take count l) i d (omega arith) ∙ ap₂ (λ (x : A) (n : ℕ). x ∷ drop n (take count l)) (get_or-take count l i d h) (sym (add-one i))

pub stages_end : {A : Type 0} (l : List A) (count i : ℕ) → count ≤ i → drop i (take count l) ≡ []
stages_end l count i h = drop_of_length-le (take count l) {i = i} (simp length-take (omega arith))

pub drop_zero : {A : Type 0} (l : List A) → drop 0 l ≡ l
drop_zero [] = refl
drop_zero (x ∷ l) = refl

-- every question of a block was answered yes
pub accepts : (c : Pipeline) (format : PcmFormat) (block a b : List ℕ) → block_verdict c format (length block) (shorter a b) ≡ Ok tt → Accepts c block a b
unfolding block_verdict
accepts c format block a b h =
    let p = ask_yes (legal c) InvalidFormat _ h in
    let q = ask_yes (whole_frames c.format (length block)) InvalidGeometry _ p.1 in
    let r = ask_yes (leb (length block / (c.format.channels * 2)) 8192) TooLong _ q.1 in
    let s = ask_yes (same_format c.format format) Unsupported _ r.1 in
    let w = both (ltb 0 (length block)) _ q.0 in
    record { chain = p.0; whole = eqb-true _ _ w.1; some = ltb-true _ _ w.0; most = leb-true _ _ r.0; room = s.1 }

module _ (f : PcmFormat) (s : Stage) (rest : List Stage) where
  module _ (n shorter : ℕ) where
    pub room_none : n ≡ 0 → rooms_verdict f (s ∷ rest) n shorter ≡ Ok tt
    unfolding rooms_verdict
    room_none h = rw (eq-eqb n 0 h)

    pub room_short : (room : ℕ) → (n ≡ 0 → ⊥) → room ≡ room_wanted f s.kind n → shorter < room → rooms_verdict f (s ∷ rest) n shorter ≡ Err (BufferTooSmall (2 * room))
    unfolding rooms_verdict
    room_short room h e l = rw (ne_eqb n 0 h, ← e, lt-leb room shorter l)

    pub room_next : (room m : ℕ) (g : PcmFormat) → (n ≡ 0 → ⊥) → room ≡ room_wanted f s.kind n → room ≤ shorter
        → m ≡ frames_out s.kind s.memory n → g ≡ format_after f s.kind → rooms_verdict f (s ∷ rest) n shorter ≡ rooms_verdict g rest m shorter
    unfolding rooms_verdict
    room_next room m g h e l i j = rw (ne_eqb n 0 h, ← e, le-leb room shorter l, i, j)

    -- what an accepted block's stage finds
    pub room_first : (n ≡ 0 → ⊥) → rooms_verdict f (s ∷ rest) n shorter ≡ Ok tt → room_wanted f s.kind n ≤ shorter
    unfolding rooms_verdict
    room_first h e = leb-true _ _ (ask_yes (leb (room_wanted f s.kind n) shorter) _ _ (rw (ne_eqb n 0 h) at e)).0

    pub room_rest : (n ≡ 0 → ⊥) → rooms_verdict f (s ∷ rest) n shorter ≡ Ok tt → rooms_verdict (format_after f s.kind) rest (frames_out s.kind s.memory n) shorter ≡ Ok tt
    unfolding rooms_verdict
    room_rest h e = (ask_yes (leb (room_wanted f s.kind n) shorter) _ _ (rw (ne_eqb n 0 h) at e)).1

-- The walk that asks: its figures fit, it ends with 1 at the first stage that does not suit, and what it finds is the block's verdict and `scratch_bytes`' figure. Assumes nothing.
use Rattle.std.specs.Prelude.{◌≡◌, Bool, ◌&&◌, ℕ, ◌+◌, ◌*◌, ◌/◌, ◌%◌, ◌≤◌, ◌<◌, eqb, leb, ltb, Option, None, Some, Result, Ok, Err}
use Rattle.std.proofs.Math.Path.{refl, sym, ap, ap₂}
use Rattle.std.proofs.Common.{◌∙◌, subst, le_refl, mul-le-mul, div-add-mod'}
use Rattle.std.proofs.Math.Bool.{true, false, cond}
use mathlib.Core.List.{List, [], ◌∷◌}
use Rattle.std.proofs.Math.Nat.{zero-mul}
use native.Mathlib.Omega.{arith}
use borrow.Author.Tests.{leb-true, leb-false, le-leb, lt-leb, eqb-true, eqb-false, eq-eqb, ne_eqb}
use Rattle.pcm.specs.declared.PcmFormat.{PcmFormat}
use Rattle.pcm.specs.declared.Error.{Error}
use Rattle.pcm.specs.declared.Error.TheVariants.{InvalidFormat, Unsupported, BufferTooSmall, InvalidGeometry, TooLong}
use Rattle.pcm.specs.Formats.{format_allowed}
use Rattle.pcm.specs.Refusals.{ask, and_then, Verdict}
use Rattle.stage.specs.declared.Stage.{Stage}
use Rattle.stage.specs.Stages.{format_after}
use Rattle.pcm.specs.laws.Tests.{both}
use Rattle.stage.specs.Rooms.{stage_suits, frames_out, frames_wanted, room_wanted}
use Rattle.stage.specs.laws.Rooms.{suits_bounded, channels_after}
use Rattle.pipeline.specs.declared.Pipeline.{Pipeline}
use Rattle.questions.specs.declared.Question.{Question}
use Rattle.questions.specs.declared.Question.TheVariants.{Block, AnyState}
use Rattle.questions.specs.declared.Due.{Due}
use Rattle.questions.specs.declared.Walk.{Walk}
use Rattle.block.specs.BlockCall.{legal, suited, rooms_verdict, halves_verdict, size_asked, block_verdict, largest_room, scratch_answer, scratch_figure, scratch_bytes}
use Rattle.pipeline.specs.WritingBack.{stages_of}
use Rattle.questions.specs.Walk.{whole_frames, same_format, larger, head_legal, size_verdict, block_frames, due_of, first_short, room_of, further, stepped, copy_room, begun, walk_on, walked, along, ShortFits, sized_from, short_verdict, verdict_from}
use Rattle.block.specs.laws.Steps.{room_none, room_short, room_next}
use Rattle.block.specs.laws.Bounds.{next_bound, few_frames, larger_least, larger_assoc, larger-zero}
use Rattle.questions.specs.laws.Walking.{frames_most, delivered_within, room_fits, step_ok}

short_fits : (shorter : ℕ) (short : Option ℕ) (room : ℕ) → ShortFits short → room ≤ 3688000000000000000 → ShortFits (first_short shorter short room)
unfolding first_short
short_fits shorter (Some short) room h k = h
short_fits shorter None room h k = go (leb room shorter)
  where
    go : (t : Bool) → ShortFits (cond t None (Some room))
    go true = tt
    go false = k

-- before stage i + 1 of a chain whose own rate is `first`
pub record Within (first : ℕ) (w : Walk) (i : ℕ) : Type 0 where
  pub rate : w.format.rate ≤ 384000
  pub channels : (0 < w.format.channels) × (w.format.channels ≤ 2)
  pub bound : w.frames * first ≤ (8192 + 768000 * i) * w.format.rate
  pub largest : w.largest ≤ 3688000000000000000
  pub short : ShortFits w.short

module _ (first : ℕ) (low : 0 < first) (high : first ≤ 384000) (w : Walk) (i : ℕ) (h : i ≤ 8) (p : Within first w i) where
  pub few : w.frames ≤ 2400000000000
  few = few_frames first low high h p.rate p.bound

  further_within : (q : Question) (shorter : ℕ) (s : Stage) → stage_suits w.format s.kind s.memory ≡ true → Within first (further q shorter w s) (i + 1)
  unfolding further
  further_within q shorter s k =
      let b = next_bound first low high w.format s.kind s.memory i w.frames (due_of q s w.frames).delivered k p.bound p.rate (delivered_within s w.frames q w.format k) in
      let r : room_of q w s ≤ 3688000000000000000 = room_fits q w s few p.channels (suits_bounded w.format s.kind s.memory k) in
      record {
        rate = b.1;
        channels = channels_after w.format s.kind p.channels;
        bound = b.0;
        largest = larger_least w.largest (room_of q w s) 3688000000000000000 p.largest r;
        short = short_fits shorter w.short (room_of q w s) p.short r;
      }

  pub step_within : (q : Question) (shorter : ℕ) (s : Stage) (v : Walk) → stepped q shorter w s ≡ Ok v → Within first v (i + 1)
  step_within q shorter s v e =
      let k = step_ok q shorter w s v e in
      subst (λ (x : Walk). Within first x (i + 1)) (sym k.1) (further_within q shorter s k.0)

pub begun_within : (f : PcmFormat) (count size shorter : ℕ) → f.rate ≤ 384000 → (0 < f.channels) × (f.channels ≤ 2) → Within f.rate (begun f count size shorter) 0
unfolding begun
begun_within f count size shorter r c = record {
  rate = r;
  channels = c;
  bound = mul-le-mul (let l : block_frames f size ≤ 8192 + 768000 * 0 = omega (arith, frames_most f size) in l) (le_refl f.rate);
  largest = small;
  short = short_fits shorter None (copy_room count (block_frames f size * (f.channels * 2))) tt small;
}
  where
    small : copy_room count (block_frames f size * (f.channels * 2)) ≤ 3688000000000000000
    small = go (eqb count 0)
      where
        go : (t : Bool) → cond t (block_frames f size * (f.channels * 2)) 0 ≤ 3688000000000000000
        go true = omega (arith, mul-le-mul (frames_most f size) (let l : f.channels * 2 ≤ 4 = omega (arith, c.1) in l))
        go false = omega arith

-- ---- all stages legal
module _ (q : Question) (shorter : ℕ) (w : Walk) (s : Stage) where
  pub further_format : (further q shorter w s).format ≡ format_after w.format s.kind
  unfolding further
  further_format = refl

-- is every stage legal? else 1
abbrev pub if_suited : Bool → Walk → Result Walk Error
if_suited suit w = cond suit (Ok w) (Err InvalidFormat)

module _ (q : Question) (shorter : ℕ) where
  pub walked_is : (w : Walk) (l : List Stage) → walked q shorter w l ≡ if_suited (suited w.format l) (along q shorter w l)
  unfolding walked along suited stepped
  walked_is w [] = refl
  walked_is w (s ∷ l) = go (stage_suits w.format s.kind s.memory) (walked_is (further q shorter w s) l)
    where
      go : (t : Bool) → walked q shorter (further q shorter w s) l ≡ if_suited (suited (further q shorter w s).format l) (along q shorter (further q shorter w s) l)
          → walk_on (if_suited t (further q shorter w s)) (λ v. walked q shorter v l)
          ≡ if_suited (t && suited (format_after w.format s.kind) l) (along q shorter (further q shorter w s) l)
      go true i = i ∙ ap (λ (f : PcmFormat). if_suited (suited f l) (along q shorter (further q shorter w s) l)) (further_format q shorter w s)
      go false i = refl

  -- what a walk found that came to its end
  pub walked_ok : (w : Walk) (l : List Stage) (v : Walk) → walked q shorter w l ≡ Ok v → (suited w.format l ≡ true) × (v ≡ along q shorter w l)
  walked_ok w l v e = go (suited w.format l) (sym (walked_is w l) ∙ e)
    where
      go : (t : Bool) → if_suited t (along q shorter w l) ≡ Ok v → (t ≡ true) × (v ≡ along q shorter w l)
      go true h = (refl, cc)
      go false h = (cc, cc)

  -- and why one did not
  pub walked_err : (w : Walk) (l : List Stage) (x : Error) → walked q shorter w l ≡ Err x → (suited w.format l ≡ false) × (x ≡ InvalidFormat)
  walked_err w l x e = go (suited w.format l) (sym (walked_is w l) ∙ e)
    where
      go : (t : Bool) → if_suited t (along q shorter w l) ≡ Err x → (t ≡ false) × (x ≡ InvalidFormat)
      go true h = (cc, cc)
      go false h = (refl, cc)

-- ---- the first stage short
none_reached : (f : PcmFormat) (l : List Stage) (shorter : ℕ) → rooms_verdict f l 0 shorter ≡ Ok tt
unfolding rooms_verdict
none_reached f [] shorter = refl
none_reached f (s ∷ l) shorter = refl

-- what the room question gives once the walk has found `short`
abbrev pub short_then : Option ℕ → Verdict → Verdict
short_then short v = and_then (short_verdict short) v

module _ (shorter room : ℕ) where
  pub room_held : room ≤ shorter → first_short shorter None room ≡ None
  unfolding first_short
  room_held h = rw (le-leb room shorter h)

  pub room_not_held : shorter < room → first_short shorter None room ≡ Some room
  unfolding first_short
  room_not_held h = rw (lt-leb room shorter h)

  pub short_before : (short : ℕ) → first_short shorter (Some short) room ≡ Some short
  unfolding first_short
  short_before short = refl

module _ (w : Walk) (s : Stage) where
  due_none : w.frames ≡ 0 → due_of Block s w.frames ≡ record { wanted = 0; delivered = 0 }
  unfolding due_of
  due_none z = rw (eq-eqb w.frames 0 z)

  due_some : (w.frames ≡ 0 → ⊥) → due_of Block s w.frames ≡ record { wanted = frames_wanted s.kind w.frames; delivered = frames_out s.kind s.memory w.frames }
  unfolding due_of
  due_some z = rw (ne_eqb w.frames 0 z)

  room_none_wanted : w.frames ≡ 0 → room_of Block w s ≡ 0
  unfolding room_of
  room_none_wanted z = rw (due_none z) (zero-mul ((format_after w.format s.kind).channels * 2))

  room_some_wanted : (w.frames ≡ 0 → ⊥) → room_of Block w s ≡ room_wanted w.format s.kind w.frames
  unfolding room_of room_wanted
  room_some_wanted z = rw (due_some z)

-- one stage's room, asked or found short before
module _ (shorter : ℕ) (w : Walk) (s : Stage) (l : List Stage) where
  abbrev then : Verdict
  then = rooms_verdict (format_after w.format s.kind) l (due_of Block s w.frames).delivered shorter

  abbrev room : ℕ
  room = room_wanted w.format s.kind w.frames

  abbrev whole : Verdict
  whole = rooms_verdict w.format (s ∷ l) w.frames shorter

  not_reached : w.frames ≡ 0 → short_then (first_short shorter None (room_of Block w s)) then ≡ whole
  not_reached z =
      ap (λ (o : Option ℕ). short_then o then) (room_held shorter (room_of Block w s) (rw (room_none_wanted w s z) (let b : 0 ≤ shorter = omega arith in b)))
      ∙ ap (λ (d : Due). rooms_verdict (format_after w.format s.kind) l d.delivered shorter) (due_none w s z) ∙ none_reached (format_after w.format s.kind) l shorter
      ∙ sym (room_none w.format s l w.frames shorter z)

  holds : (w.frames ≡ 0 → ⊥) → room ≤ shorter → short_then (first_short shorter None (room_of Block w s)) then ≡ whole
  holds z h =
      ap (λ (o : Option ℕ). short_then o then) (room_held shorter (room_of Block w s) (rw (room_some_wanted w s z) h))
      ∙ ap (λ (d : Due). rooms_verdict (format_after w.format s.kind) l d.delivered shorter) (due_some w s z)
      ∙ sym (room_next w.format s l w.frames shorter room (frames_out s.kind s.memory w.frames) (format_after w.format s.kind) z refl h refl refl)

  falls_short : (w.frames ≡ 0 → ⊥) → shorter < room → short_then (first_short shorter None (room_of Block w s)) then ≡ whole
  falls_short z h =
      let k : first_short shorter None (room_of Block w s) ≡ Some room = ap (first_short shorter None) (room_some_wanted w s z) ∙ room_not_held shorter room h in
      ap (λ (o : Option ℕ). short_then o then) k ∙ sym (room_short w.format s l w.frames shorter room z refl h)

  first_asked : (u : Bool) → eqb w.frames 0 ≡ u → (v : Bool) → leb room shorter ≡ v → short_then (first_short shorter None (room_of Block w s)) then ≡ whole
  first_asked true k v m = not_reached (eqb-true _ _ k)
  first_asked false k true m = holds (eqb-false _ _ k) (leb-true _ _ m)
  first_asked false k false m = falls_short (eqb-false _ _ k) (leb-false _ _ m)

  step_short : (short : Option ℕ) → short_then (first_short shorter short (room_of Block w s)) then ≡ short_then short whole
  step_short None = first_asked (eqb w.frames 0) refl (leb room shorter) refl
  step_short (Some n) = ap (λ (o : Option ℕ). short_then o then) (short_before shorter (room_of Block w s) n)

module _ (shorter : ℕ) where
  further_short : (w : Walk) (s : Stage) (l : List Stage) → short_then (further Block shorter w s).short (rooms_verdict (further Block shorter w s).format l (further Block shorter w s).frames shorter)
      ≡ short_then (first_short shorter w.short (room_of Block w s)) (rooms_verdict (format_after w.format s.kind) l (due_of Block s w.frames).delivered shorter)
  unfolding further
  further_short w s l = refl

  no_more : (w : Walk) → short_verdict w.short ≡ short_then w.short (rooms_verdict w.format [] w.frames shorter)
  unfolding rooms_verdict
  no_more w = go w.short
    where
      go : (o : Option ℕ) → short_verdict o ≡ short_then o (Ok tt)
      go None = refl
      go (Some n) = refl

  pub along_short : (w : Walk) (l : List Stage) → short_verdict (along Block shorter w l).short ≡ short_then w.short (rooms_verdict w.format l w.frames shorter)
  unfolding along
  along_short w [] = no_more w
  along_short w (s ∷ l) = along_short (further Block shorter w s) l ∙ further_short w s l ∙ step_short shorter w s l w.short

-- ---- the largest room
module _ (shorter : ℕ) where
  further_largest : (w : Walk) (s : Stage) (l : List Stage) → larger (further AnyState shorter w s).largest (largest_room (further AnyState shorter w s).format l (further AnyState shorter w s).frames)
      ≡ larger (larger w.largest (room_wanted w.format s.kind w.frames)) (largest_room (format_after w.format s.kind) l (frames_wanted s.kind w.frames))
  unfolding further room_of due_of room_wanted
  further_largest w s l = refl

  pub along_largest : (w : Walk) (l : List Stage) → (along AnyState shorter w l).largest ≡ larger w.largest (largest_room w.format l w.frames)
  unfolding along largest_room
  along_largest w [] = sym (larger-zero w.largest)
  along_largest w (s ∷ l) =
      along_largest (further AnyState shorter w s) l
      ∙ further_largest w s l ∙ sym (larger_assoc w.largest (room_wanted w.format s.kind w.frames) (largest_room (format_after w.format s.kind) l (frames_wanted s.kind w.frames)))

-- ---- a block of a legal size
whole_size : (n k : ℕ) → n % k ≡ 0 → n / k * k ≡ n
whole_size n k h = omega (arith, div-add-mod' n k)

module _ (f : PcmFormat) (size : ℕ) (h : size_verdict f size ≡ Ok tt) where
  pub frames_are : block_frames f size ≡ size / (f.channels * 2)
  unfolding block_frames
  frames_are = rw h

  whole_is : whole_frames f size ≡ true
  unfolding size_verdict
  whole_is = go (whole_frames f size) (leb (size / (f.channels * 2)) 8192) h
    where
      go : (t u : Bool) → ask t InvalidGeometry (ask u TooLong (Ok tt)) ≡ Ok tt → t ≡ true
      go true u e = refl
      go false u e = cc

  pub bytes_are : block_frames f size * (f.channels * 2) ≡ size
  bytes_are = ap (λ (n : ℕ). n * (f.channels * 2)) frames_are ∙ whole_size size (f.channels * 2) (eqb-true _ _ (both (ltb 0 size) (eqb (size % (f.channels * 2)) 0) whole_is).1)

-- ---- what a block's walk answers is the verdict
module _ (c : Pipeline) (size : ℕ) (head : head_legal c.format c.count ≡ true) where
  pub legal_is : legal c ≡ suited c.format (stages_of c)
  unfolding legal
  legal_is = go (leb c.count 8) (format_allowed c.format) head
    where
      go : (t u : Bool) → (t && u) ≡ true → (t && (u && suited c.format (stages_of c))) ≡ suited c.format (stages_of c)
      go true true e = refl
      go true false e = cc
      go false u e = cc

  -- the questions before those of format and room
  sized_then : (t : Bool) (w : Walk) (next : Verdict) → ask t InvalidFormat (ask (whole_frames c.format size) InvalidGeometry (ask (leb (size / (c.format.channels * 2)) 8192) TooLong next))
      ≡ and_then (sized_from c.format size (if_suited t w)) next
  unfolding size_verdict sized_from
  sized_then true w next = go (whole_frames c.format size) (leb (size / (c.format.channels * 2)) 8192)
    where
      go : (u v : Bool) → ask u InvalidGeometry (ask v TooLong next) ≡ and_then (ask u InvalidGeometry (ask v TooLong (Ok tt))) next
      go true true = refl
      go true false = refl
      go false v = refl
  sized_then false w next = refl

  -- from any walk that begins at the chain's format
  pub asked_is : (q : Question) (shorter : ℕ) (w : Walk) (next : Verdict) → w.format ≡ c.format
      → size_asked c size next ≡ and_then (sized_from c.format size (walked q shorter w (stages_of c))) next
  asked_is q shorter w next e =
      sized_then (legal c) (along q shorter w (stages_of c)) next
      ∙ ap (λ (r : Result Walk Error). and_then (sized_from c.format size r) next)
      (ap (λ (t : Bool). if_suited t (along q shorter w (stages_of c))) (legal_is ∙ sym (ap (λ (f : PcmFormat). suited f (stages_of c)) e)) ∙ sym (walked_is q shorter w (stages_of c)))

after_same : (v a b : Verdict) → (v ≡ Ok tt → a ≡ b) → and_then v a ≡ and_then v b
after_same (Ok _) a b h = h refl
after_same (Err e) a b h = refl

-- what a walk begins with, of any number of stages and any halves
pub record Begins (f : PcmFormat) (size : ℕ) (w : Walk) : Type 0 where
  pub format : w.format ≡ f
  pub frames : w.frames ≡ block_frames f size

pub begins : (f : PcmFormat) (count size shorter : ℕ) → Begins f size (begun f count size shorter)
unfolding begun
begins f count size shorter = record { format = refl; frames = refl }

module _ (c : Pipeline) (format : PcmFormat) (size shorter : ℕ) (head : head_legal c.format c.count ≡ true) (none : c.count ≡ 0 → stages_of c ≡ []) (some : (c.count ≡ 0 → ⊥) → stages_of c ≡ [] → ⊥) where
  abbrev pub start : Walk
  start = begun c.format c.count size shorter

  at_start : Begins c.format size start
  at_start = begins c.format c.count size shorter

  start_short : start.short ≡ first_short shorter None (copy_room c.count (block_frames c.format size * (c.format.channels * 2)))
  unfolding begun
  start_short = refl

  -- the room question, where the size is legal
  room_is : size_verdict c.format size ≡ Ok tt → halves_verdict c.format (stages_of c) size shorter ≡ short_verdict (along Block shorter start (stages_of c)).short
  unfolding along first_short
  room_is h = go (stages_of c) refl
    where
      copied : c.count ≡ 0 → start.short ≡ first_short shorter None size
      copied z = start_short ∙ ap (first_short shorter None) (rw (eq-eqb c.count 0 z) (bytes_are c.format size h))

      moved : (c.count ≡ 0 → ⊥) → start.short ≡ None
      moved z = start_short ∙ ap (first_short shorter None) (rw (ne_eqb c.count 0 z)) ∙ room_held shorter 0 (omega arith)

      copy_verdict : ask (leb size shorter) (BufferTooSmall (2 * size)) (Ok tt) ≡ short_verdict (first_short shorter None size)
      copy_verdict = at (leb size shorter)
        where
          at : (t : Bool) → ask t (BufferTooSmall (2 * size)) (Ok tt) ≡ short_verdict (cond t None (Some size))
          at true = refl
          at false = refl

      go : (l : List Stage) → stages_of c ≡ l → halves_verdict c.format l size shorter ≡ short_verdict (along Block shorter start l).short
      go [] e = at (eqb c.count 0) refl
        where
          at : (t : Bool) → eqb c.count 0 ≡ t → ask (leb size shorter) (BufferTooSmall (2 * size)) (Ok tt) ≡ short_verdict start.short
          at true k = copy_verdict ∙ ap short_verdict (sym (copied (eqb-true _ _ k)))
          at false k = absurd (some (eqb-false _ _ k) e)
      go (s ∷ l) e = at (eqb c.count 0) refl
        where
          at : (t : Bool) → eqb c.count 0 ≡ t → rooms_verdict c.format (s ∷ l) (size / (c.format.channels * 2)) shorter ≡ short_verdict (along Block shorter start (s ∷ l)).short
          at true k = cc (none (eqb-true _ _ k))
          at false k =
              sym (along_short shorter start (s ∷ l)
              ∙ ap (λ (o : Option ℕ). short_then o (rooms_verdict start.format (s ∷ l) start.frames shorter)) (moved (eqb-false _ _ k))
              ∙ ap (λ (f : PcmFormat). rooms_verdict f (s ∷ l) start.frames shorter) at_start.format
              ∙ ap (λ (n : ℕ). rooms_verdict c.format (s ∷ l) n shorter) (at_start.frames ∙ frames_are c.format size h))

  pub verdict_is : verdict_from c.format format size (walked Block shorter start (stages_of c)) ≡ block_verdict c format size shorter
  unfolding verdict_from block_verdict sized_from
  verdict_is =
      ap (verdict_from c.format format size) (walked_is Block shorter start (stages_of c))
      ∙ go (suited start.format (stages_of c))
      ∙ ap (λ (r : Result Walk Error). and_then (sized_from c.format size r) room) (sym (walked_is Block shorter start (stages_of c)))
      ∙ sym (asked_is c size head Block shorter start room at_start.format)
    where
      room : Verdict
      room = ask (same_format c.format format) Unsupported (halves_verdict c.format (stages_of c) size shorter)

      go : (t : Bool) → verdict_from c.format format size (if_suited t (along Block shorter start (stages_of c))) ≡ and_then (sized_from c.format size (if_suited t (along Block shorter start (stages_of c)))) room
      go true = after_same (size_verdict c.format size) _ _ (λ h. ap (ask (same_format c.format format) Unsupported) (sym (room_is h)))
      go false = refl

-- ---- and `scratch_bytes`' figure
pub head_illegal : (c : Pipeline) → head_legal c.format c.count ≡ false → legal c ≡ false
unfolding legal
head_illegal c h = go (leb c.count 8) (format_allowed c.format) h
  where
    go : (t u : Bool) → (t && u) ≡ false → (t && (u && suited c.format (stages_of c))) ≡ false
    go true true e = cc
    go true false e = refl
    go false u e = refl

pub scratch_refused : (c : Pipeline) (size : ℕ) → head_legal c.format c.count ≡ false → Err InvalidFormat ≡ scratch_bytes c size
unfolding scratch_bytes
scratch_refused c size h = rw (head_illegal c h)

same_figure : (v : Verdict) (m n : ℕ) → (v ≡ Ok tt → m ≡ n) → scratch_answer v m ≡ scratch_answer v n
same_figure (Ok _) m n h = ap Ok (h refl)
same_figure (Err e) m n h = refl

after_none : (v : Verdict) → and_then v (Ok tt) ≡ v
after_none (Ok _) = refl
after_none (Err e) = refl

-- what the walk that asks for it comes to
abbrev pub figure_from : PcmFormat → ℕ → Result Walk Error → Result ℕ Error
figure_from f size (Ok w) = scratch_answer (size_verdict f size) (2 * w.largest)
figure_from f size (Err e) = Err e

module _ (c : Pipeline) (size : ℕ) (head : head_legal c.format c.count ≡ true) where
  abbrev first : Walk
  first = begun c.format 0 size size

  at_first : Begins c.format size first
  at_first = begins c.format 0 size size

  first_largest : first.largest ≡ block_frames c.format size * (c.format.channels * 2)
  unfolding begun
  first_largest = refl

  figure_is : size_verdict c.format size ≡ Ok tt → (along AnyState size first (stages_of c)).largest ≡ larger size (largest_room c.format (stages_of c) (size / (c.format.channels * 2)))
  figure_is h =
      along_largest size first (stages_of c)
      ∙ ap₂ larger (first_largest ∙ bytes_are c.format size h) (ap₂ (λ (f : PcmFormat) (n : ℕ). largest_room f (stages_of c) n) at_first.format (at_first.frames ∙ frames_are c.format size h))

  asked : size_asked c size (Ok tt) ≡ sized_from c.format size (walked AnyState size first (stages_of c))
  asked = asked_is c size head AnyState size first (Ok tt) at_first.format ∙ after_none (sized_from c.format size (walked AnyState size first (stages_of c)))

  -- a walk that came to its end
  pub scratch_walked : (w : Walk) → walked AnyState size first (stages_of c) ≡ Ok w → scratch_answer (size_verdict c.format size) (2 * w.largest) ≡ scratch_bytes c size
  unfolding scratch_bytes sized_from
  scratch_walked w e =
      same_figure (size_verdict c.format size) _ _ (λ h. ap (λ (n : ℕ). 2 * n) (ap (λ (x : Walk). x.largest) (walked_ok AnyState size first (stages_of c) w e).1 ∙ figure_is h))
      ∙ ap (λ (v : Verdict). scratch_answer v (scratch_figure c size)) (sym (asked ∙ ap (sized_from c.format size) e))

  -- and one that did not
  pub scratch_unsuited : (x : Error) → walked AnyState size first (stages_of c) ≡ Err x → Err x ≡ scratch_bytes c size
  unfolding scratch_bytes sized_from
  scratch_unsuited x e = sym (ap (λ (v : Verdict). scratch_answer v (scratch_figure c size)) (asked ∙ ap (sized_from c.format size) e))

  -- so whatever the walk came to
  pub scratch_is : figure_from c.format size (walked AnyState size first (stages_of c)) ≡ scratch_bytes c size
  scratch_is = go (walked AnyState size first (stages_of c)) refl
    where
      go : (r : Result Walk Error) → walked AnyState size first (stages_of c) ≡ r → figure_from c.format size r ≡ scratch_bytes c size
      go (Ok w) e = scratch_walked w e
      go (Err x) e = scratch_unsuited x e

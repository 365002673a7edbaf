-- From before one stage to before the next, and to the end. Assumes nothing.
use Rattle.std.specs.Prelude.{◌≡◌, Bool, true, false, cond, List, [], ◌∷◌, ◌++◌, ℕ, zero, suc, ◌+◌, ◌*◌, ◌/◌, ◌%◌, ◌≤◌, ◌<◌, eqb, length, take, drop, get_or, set, Ok}
use Rattle.std.proofs.Math.Path.{refl}
use Rattle.std.proofs.Common.{sym, ap, ap₂, ◌∙◌, subst, append_assoc, mul-pos, mul-div_cancel, div-add-mod', zero-mul, arith, eq-eqb, ne_eqb, take-append-drop, take-suc-set, drop-set-lt, drop-drop, get_or-drop, length-take-le}
use Rattle.std.proofs.Math.Nat.{mul-mod_left}
use Rattle.std.proofs.Math.Decide.{dec_lt}
use Rattle.std.proofs.Math.Numerals.{add-one}
use Rattle.pcm.specs.declared.PcmFormat.{PcmFormat}
use Rattle.pcm.specs.Samples.{Bytes}
use Rattle.pcm.specs.Frames.{Frame, FramesOf, frames_of, bytes_of, written}
use Rattle.pcm.specs.laws.Frames.{length_bytes, frames_bytes, length_frames, frames_are_frames, front_written, length_written, written-nil}
use Rattle.stage.specs.declared.Stage.{Stage}
use Rattle.stage.specs.Stages.{stage_out, stage_next, format_after}
use Rattle.stage.specs.laws.Stages.{stage_out-nil}
use Rattle.stage.specs.declared.SoundMemory.{SoundMemory}
use Rattle.stage.specs.Rooms.{stage_suits, frames_out, room_wanted, Served}
use Rattle.stage.specs.Theorems.{room_holds_bytes}
use Rattle.stage.specs.laws.Rooms.{stage_count, channels_after}
use Rattle.pipeline.specs.declared.Pipeline.{Pipeline}
use Rattle.block.specs.Chain.{chain_out, chain_next}
use Rattle.block.specs.laws.Chain.{chain_out-nil, chain_next-nil}
use Rattle.pipeline.specs.Reset.{format_leaving}
use Rattle.turns.specs.Turns.{Halves, halves, source_at, target_at, TurnAsks, TurnDoes, Takes, Makes}
use Rattle.block.specs.BlockCall.{put, suited, rooms_verdict, passed, shorter, halves_verdict}
use Rattle.pipeline.specs.WritingBack.{stages_of}
use Rattle.block.specs.laws.Steps.{stage_at_lem, stages_end, drop_zero, room_first, room_rest}
use Rattle.block.specs.laws.Bounds.{suited_first, suited_rest, legal_parts}
use Rattle.block.specs.Bounds.{Legal}
use Rattle.block.specs.laws.Turns.{Turns, Ended, Reached}
use Rattle.block.specs.Turns.{Accepts}

-- ---- small laws
module _ (s : Stage) (rest : List Stage) where
  passed_cons : (i : ℕ) (xs : List Frame) (h : Halves) → passed i (s ∷ rest) xs h ≡ passed (i + 1) rest (stage_out s xs) (put i (bytes_of (stage_out s xs)) h)
  unfolding passed
  passed_cons i xs h = rw add-one

  format_cons : (f : PcmFormat) → format_leaving f (s ∷ rest) ≡ format_leaving (format_after f s.kind) rest
  unfolding format_leaving
  format_cons f = refl

pub passed_none : (i : ℕ) (xs : List Frame) (h : Halves) → passed i [] xs h ≡ h
unfolding passed
passed_none i xs h = refl

pub format_none : (f : PcmFormat) → format_leaving f [] ≡ f
unfolding format_leaving
format_none f = refl

pub bytes-nil : bytes_of [] ≡ []
unfolding bytes_of
bytes-nil = refl

pub put-nil : (i : ℕ) (h : Halves) → put i [] h ≡ h
put-nil i h = go (eqb (i % 2) 0)
  where
    go : (t : Bool) → cond t (record { a = written [] h.a; b = h.b }) (record { a = h.a; b = written [] h.b }) ≡ h
    go true = ap (λ (l : List ℕ). record { a = l; b = h.b }) (written-nil h.a)
    go false = ap (λ (l : List ℕ). record { a = h.a; b = l }) (written-nil h.b)

-- a stage that gets nothing writes nothing
passed-nil : (i : ℕ) (rest : List Stage) (h : Halves) → passed i rest [] h ≡ h
passed-nil i [] h = passed_none i [] h
passed-nil i (s ∷ rest) h =
    passed_cons s rest i [] h
    ∙ ap₂ (λ (xs : List Frame) (h : Halves). passed (i + 1) rest xs h) (stage_out-nil s) (ap (λ (xs : List Frame). put i (bytes_of xs) h) (stage_out-nil s) ∙ ap (λ (l : List ℕ). put i l h) bytes-nil ∙ put-nil i h)
    ∙ passed-nil (i + 1) rest h

-- the next source is what was written
pub next_source : (i n : ℕ) (block out : List ℕ) (h : Halves) → n ≡ length out → source_at (i + 1) n block (put i out h) ≡ out
next_source i n block out h e = go (dec_lt (i % 2) 1)
  where
    z : i + 1 ≡ 0 → ⊥
    z q = omega arith

    go : Dec (i % 2 < 1) → source_at (i + 1) n block (put i out h) ≡ out
    go (yes p) =
        let q : (i + 1) % 2 ≡ 0 → ⊥ = λ r. omega arith in
        let p : i % 2 ≡ 0 = omega arith in
        rw (ne_eqb (i + 1) 0 z, ne_eqb ((i + 1) % 2) 0 q, eq-eqb (i % 2) 0 p) (front_written out h.a n e)
    go (no p) =
        let q : (i + 1) % 2 ≡ 0 = omega arith in
        let p : i % 2 ≡ 0 → ⊥ = λ r. omega arith in
        rw (ne_eqb (i + 1) 0 z, eq-eqb ((i + 1) % 2) 0 q, ne_eqb (i % 2) 0 p) (front_written out h.b n e)

-- both halves keep their length
pub record Sized (before after : Halves) : Type 0 where
  pub a : length after.a ≡ length before.a
  pub b : length after.b ≡ length before.b

-- what is written to one leaves both as long as they were
pub put_sized : (i : ℕ) (out : List ℕ) (h : Halves) → length out ≤ length h.a → length out ≤ length h.b → Sized h (put i out h)
put_sized i out h p q = go (eqb (i % 2) 0)
  where
    go : (t : Bool) → Sized h (cond t (record { a = written out h.a; b = h.b }) (record { a = h.a; b = written out h.b }))
    go true = record { a = length_written out h.a p; b = refl }
    go false = record { a = refl; b = length_written out h.b q }

pub target_long : (i : ℕ) (h : Halves) (m : ℕ) → m ≤ length h.a → m ≤ length h.b → m ≤ length (target_at i h)
target_long i h m p q = go (eqb (i % 2) 0)
  where
    go : (t : Bool) → m ≤ length (cond t h.a h.b)
    go true = p
    go false = q

pub shorter_a : (a b : List ℕ) → shorter a b ≤ length a
shorter_a a b = omega arith

pub shorter_b : (a b : List ℕ) → shorter a b ≤ length b
shorter_b a b = omega arith

none_of : {A : Type 0} (l : List A) → length l ≡ 0 → l ≡ []
none_of [] e = refl
none_of (x ∷ l) e = absurd (let b : ⊥ = omega arith in b)

pub positive : (n : ℕ) → (n ≡ 0 → ⊥) → 0 < n
positive n z = omega arith

whole_frames_lem : (n k : ℕ) → n % k ≡ 0 → n / k * k ≡ n
whole_frames_lem n k h = omega (arith, div-add-mod' n k)

zero_factor : (a b : ℕ) → 0 < b → a * b ≡ 0 → a ≡ 0
zero_factor zero b h e = refl
zero_factor (suc a) b h e = absurd (let l : b ≤ suc a * b = suc_mul_le a b in let c : ⊥ = omega arith in c)
  where
    suc_mul_le : (a b : ℕ) → b ≤ suc a * b
    suc_mul_le a b = omega arith

-- a list from i on, up to count and past it
drop_seam : {A : Type 0} (l : List A) (count i : ℕ) → i ≤ count → drop i (take count l) ++ drop count l ≡ drop i l
drop_seam l count i h = sym (drop_split l count i h)
  where
    drop_split : {A : Type 0} (l : List A) (count i : ℕ) → i ≤ count → drop i l ≡ drop i (take count l) ++ drop count l
    drop_split l count zero h = drop_zero l ∙ sym (take-append-drop count l) ∙ ap (λ t. t ++ drop count l) (sym (drop_zero (take count l)))
    drop_split [] (suc count) (suc i) h = refl
    drop_split (x ∷ l) (suc count) (suc i) h = drop_split l count i (omega arith)
    drop_split l zero (suc i) h = absurd (let c : ⊥ = omega arith in c)

-- ---- a turn, by its half
pub turns_of : (f : PcmFormat) (s : Stage) (memory : SoundMemory) (i n len clipped : ℕ) (block : List ℕ) (h h' : Halves)
    → TurnDoes i n block h h' (Makes f s memory len clipped)
    → Turns f s (record { kind = s.kind; memory = memory }) (frames_of f.channels (source_at i n block h)) i len h h'
turns_of f s memory i n len clipped block h h' d = record {
  keeps = d.does.serves.keeps;
  size = d.does.serves.size;
  gives = go (eqb (i % 2) 0) (bytes_of (stage_out s (frames_of f.channels (source_at i n block h)))) d.does.serves.gives d.other;
  frames = d.does.serves.frames;
}
  where
    go : (t : Bool) (out : List ℕ) → cond t h'.a h'.b ≡ written out (cond t h.a h.b) → cond t h'.b h'.a ≡ cond t h.b h.a
        → h' ≡ cond t (record { a = written out h.a; b = h.b }) (record { a = h.a; b = written out h.b })
    go true out p q = ap₂ halves p q
    go false out p q = ap₂ halves q p

-- ---- one stage
module _ (old : List Stage) (count : ℕ) (format : PcmFormat) (block : List ℕ) (before : Halves) (short : ℕ)
    (stages : List Stage) (f : PcmFormat) (n i : ℕ) (h : Halves) (d : Stage)
    (r : Reached old count format block before short stages f n i h) (more : i < count) (len : length stages ≡ 8) (len-old : length old ≡ 8) (top : count ≤ 8)
    (in_a : short ≤ length h.a) (in_b : short ≤ length h.b) where
  abbrev pub s : Stage
  s = get_or stages i d

  abbrev rest : List Stage
  rest = drop (i + 1) (take count old)

  same_stage : get_or old i d ≡ s
  same_stage =
      let e : i + 0 ≡ i = omega arith in
      sym (ap (λ (k : ℕ). get_or old k d) e) ∙ sym (get_or-drop i old 0 d) ∙ sym (ap (λ (l : List Stage). get_or l 0 d) r.tail) ∙ get_or-drop i stages 0 d ∙ ap (λ (k : ℕ). get_or stages k d) e

  pub ahead : drop i (take count old) ≡ s ∷ rest
  ahead = stage_at_lem old count i d more (omega arith) ∙ ap (λ (x : Stage). x ∷ rest) same_stage

  not_none : length r.xs ≡ 0 → ⊥
  not_none e = omega (arith, r.some)

  pub suit_here : stage_suits f s.kind s.memory ≡ true
  suit_here = suited_first f s rest (sym (ap (suited f) ahead) ∙ r.suit)

  room_all : rooms_verdict f (s ∷ rest) (length r.xs) short ≡ Ok tt
  room_all = sym (ap (λ (l : List Stage). rooms_verdict f l (length r.xs) short) ahead) ∙ r.room

  room_here : room_wanted f s.kind (length r.xs) ≤ short
  room_here = room_first f s rest (length r.xs) short not_none room_all

  frames_here : length (source_at i n block h) / (f.channels * 2) ≡ length r.xs
  frames_here = ap (λ (k : ℕ). k / (f.channels * 2)) r.long ∙ mul-div_cancel (length r.xs) (let p : 0 < f.channels * 2 = omega (arith, r.channels.0) in p)

  held : frames_out s.kind s.memory (length r.xs) * ((format_after f s.kind).channels * 2) ≤ room_wanted f s.kind (length r.xs)
  held = room_holds_bytes f s.memory s.kind (length r.xs) suit_here

  served : Served f s (source_at i n block h) (target_at i h)
  served = record {
    suit = suit_here;
    channels = r.channels;
    some = rw r.long (mul-pos r.some (let p : 0 < f.channels * 2 = omega (arith, r.channels.0) in p));
    whole = rw r.long (mul-mod_left (length r.xs) (f.channels * 2));
    room = rw frames_here (target_long i h (frames_out s.kind s.memory (length r.xs) * ((format_after f s.kind).channels * 2)) (omega (arith, held, room_here)) (omega (arith, held, room_here)));
  }

  -- what its turn asks
  pub takes : TurnAsks i n block h (Takes f s)
  takes = record {
    reads = r.long ∙ sym (length_bytes f.channels r.xs r.good) ∙ sym r.size;
    asks = (served, subst (FramesOf f.channels) (sym r.source) r.good);
  }

  -- the stage has had its turn
  module _ (next : Stage) (m : ℕ) (g : PcmFormat) (h' : Halves)
      (t : Turns f s next (frames_of f.channels (source_at i n block h)) i m h h') (e : g ≡ format_after f s.kind) where
    abbrev out : List Frame
    out = stage_out s r.xs

    abbrev moved : List Stage
    moved = set stages i next

    next_is : next ≡ stage_next s r.xs
    next_is = t.keeps ∙ ap (stage_next s) r.source

    size_is : m ≡ length (bytes_of out)
    size_is = t.size ∙ ap (λ (xs : List Frame). length (bytes_of (stage_out s xs))) r.source

    halves_are : h' ≡ put i (bytes_of out) h
    halves_are = t.gives ∙ ap (λ (xs : List Frame). put i (bytes_of (stage_out s xs)) h) r.source

    good_out : FramesOf g.channels out
    good_out = subst (λ (k : PcmFormat). FramesOf k.channels out) (sym e) (subst (λ (xs : List Frame). FramesOf f.channels xs → FramesOf (format_after f s.kind).channels (stage_out s xs)) r.source t.frames r.good)

    pub count_out : length out ≡ frames_out s.kind s.memory (length r.xs)
    count_out = stage_count s r.xs

    long_out : length (bytes_of out) ≡ length out * (g.channels * 2)
    long_out = length_bytes g.channels out good_out

    few_channels : (0 < g.channels) × (g.channels ≤ 2)
    few_channels = subst (λ (k : PcmFormat). (0 < k.channels) × (k.channels ≤ 2)) (sym e) (channels_after f s.kind r.channels)

    some_channels : 0 < g.channels
    some_channels = few_channels.0

    within_out : m ≤ short
    within_out =
        let a : length out * (g.channels * 2) ≤ room_wanted f s.kind (length r.xs) =
        subst (λ (k : PcmFormat). length out * (k.channels * 2) ≤ room_wanted f s.kind (length r.xs)) (sym e)
        (subst (λ (k : ℕ). k * ((format_after f s.kind).channels * 2) ≤ room_wanted f s.kind (length r.xs)) (sym count_out) held) in
        omega (arith, size_is, long_out, room_here)

    sides_out : passed 0 (take count old) (frames_of format.channels block) before ≡ passed (i + 1) rest out h'
    sides_out =
        r.sides ∙ ap (λ (l : List Stage). passed i l r.xs h) ahead ∙ passed_cons s rest i r.xs h
        ∙ ap (passed (i + 1) rest out) (sym halves_are)

    makes_out : chain_out (take count old) (frames_of format.channels block) ≡ chain_out rest out
    makes_out = r.makes ∙ ap (λ (l : List Stage). chain_out l r.xs) ahead

    keeps_out : chain_next (take count old) (frames_of format.channels block) ++ drop count old ≡ take (i + 1) moved ++ (chain_next rest out ++ drop count old)
    keeps_out =
        r.keeps ∙ ap (λ (l : List Stage). take i stages ++ (chain_next l r.xs ++ drop count old)) ahead
        ∙ ap (λ (x : Stage). take i stages ++ (x ∷ (chain_next rest out ++ drop count old))) (sym next_is)
        ∙ sym (append_assoc (take i stages) (next ∷ []) (chain_next rest out ++ drop count old))
        ∙ ap (λ (l : List Stage). l ++ (chain_next rest out ++ drop count old))
        (sym (take-suc-set stages i next (omega arith)) ∙ ap (λ (k : ℕ). take k moved) (sym (add-one i)))

    tail_out : drop (i + 1) moved ≡ drop (i + 1) old
    tail_out = drop-set-lt (i + 1) stages i next (omega arith) ∙ sym (drop-drop 1 i stages) ∙ ap (drop 1) r.tail ∙ drop-drop 1 i old

    form_out : format_leaving format (take count old) ≡ format_leaving g rest
    form_out = r.form ∙ ap (format_leaving f) ahead ∙ format_cons s rest f ∙ ap (λ (k : PcmFormat). format_leaving k rest) (sym e)

    pub sized_out : Sized h h'
    sized_out = subst (Sized h) (sym halves_are) (put_sized i (bytes_of out) h (omega (arith, size_is, within_out)) (omega (arith, size_is, within_out)))

    empty_out : length out ≡ 0 → m ≡ 0
    empty_out q = size_is ∙ long_out ∙ ap (λ (k : ℕ). k * (g.channels * 2)) q ∙ zero-mul (g.channels * 2)

    src : source_at (i + 1) m block h' ≡ bytes_of out
    src = ap (source_at (i + 1) m block) halves_are ∙ next_source i m block (bytes_of out) h size_is

    -- the frames that come to the next stage
    pub source_out : frames_of g.channels (source_at (i + 1) m block h') ≡ out
    source_out = ap (frames_of g.channels) src ∙ frames_bytes g.channels out some_channels good_out

    pub none_out : m ≡ 0 → out ≡ []
    none_out z = none_of out (zero_factor (length out) (g.channels * 2) (omega (arith, some_channels)) (sym long_out ∙ sym size_is ∙ z))

    -- frames came: the next stage takes them
    pub next_reached : (m ≡ 0 → ⊥) → Reached old count format block before short moved g m (i + 1) h'
    next_reached z =
        record {
          xs = out;
          good = good_out;
          some = positive (length out) (λ q. z (empty_out q));
          channels = few_channels;
          source = source_out;
          long = ap length src ∙ long_out;
          size = size_is;
          suit = subst (λ (k : PcmFormat). suited k rest ≡ true) (sym e) (suited_rest f s rest (sym (ap (suited f) ahead) ∙ r.suit));
          room = subst (λ (k : PcmFormat). rooms_verdict k rest (length out) short ≡ Ok tt) (sym e)
              (subst (λ (k : ℕ). rooms_verdict (format_after f s.kind) rest k short ≡ Ok tt) (sym count_out) (room_rest f s rest (length r.xs) short not_none room_all));
          sides = sides_out;
          makes = makes_out;
          keeps = keeps_out;
          tail = tail_out;
          form = form_out;
        }

    -- nothing came: the later stages are not run
    pub stopped : m ≡ 0 → Ended old count format block before moved g m h'
    stopped z = record {
      keeps = sym (keeps_out ∙ ap (λ (l : List Stage). take (i + 1) moved ++ (l ++ drop count old)) (ap (chain_next rest) out_none ∙ chain_next-nil rest)
          ∙ ap (λ (l : List Stage). take (i + 1) moved ++ l) (drop_seam old count (i + 1) (omega arith) ∙ sym tail_out) ∙ take-append-drop (i + 1) moved);
      size = z ∙ sym (ap (λ (xs : List Frame). length (bytes_of xs)) (makes_out ∙ ap (chain_out rest) out_none ∙ chain_out-nil rest) ∙ ap length bytes-nil);
      form = λ q. absurd (q z);
      halves_are = sym (sides_out ∙ ap (λ (xs : List Frame). passed (i + 1) rest xs h') out_none ∙ passed-nil (i + 1) rest h');
    }
      where
        out_none : out ≡ []
        out_none = none_out z

-- ---- past the last stage
module _ (old : List Stage) (count : ℕ) (format : PcmFormat) (block : List ℕ) (before : Halves) (short : ℕ)
    (stages : List Stage) (f : PcmFormat) (n i : ℕ) (h : Halves)
    (r : Reached old count format block before short stages f n i h) (last : i ≡ count) where
  over : drop i (take count old) ≡ []
  over = stages_end old count i (omega arith)

  pub ended : Ended old count format block before stages f n h
  ended = record {
    keeps = sym (r.keeps ∙ ap (λ (l : List Stage). take i stages ++ (chain_next l r.xs ++ drop count old)) over
        ∙ ap (λ (k : ℕ). take i stages ++ drop k old) (sym last) ∙ ap (λ (l : List Stage). take i stages ++ l) (sym r.tail) ∙ take-append-drop i stages);
    size = r.size ∙ ap (λ (xs : List Frame). length (bytes_of xs)) (sym (r.makes ∙ ap (λ (l : List Stage). chain_out l r.xs) over));
    form = λ q. sym (r.form ∙ ap (format_leaving f) over ∙ format_none f);
    halves_are = sym (r.sides ∙ ap (λ (l : List Stage). passed i l r.xs h) over ∙ passed_none i r.xs h);
  }

-- ---- before the first stage
pub halves_some : (f : PcmFormat) (l : List Stage) (size short : ℕ) → 0 < length l → halves_verdict f l size short ≡ rooms_verdict f l (size / (f.channels * 2)) short
halves_some f [] size short h = absurd (let b : ⊥ = omega arith in b)
halves_some f (s ∷ l) size short h = refl

module _ (c : Pipeline) (block a b : List ℕ) (w : Accepts c block a b) (len : length c.stages ≡ 8) (bytes : Bytes block) where
  ok : Legal c
  ok = legal_parts c w.chain

  first-length : length (frames_of c.format.channels block) ≡ length block / (c.format.channels * 2)
  first-length = length_frames c.format.channels block

  first_long : length block ≡ length (frames_of c.format.channels block) * (c.format.channels * 2)
  first_long = sym (whole_frames_lem (length block) (c.format.channels * 2) w.whole) ∙ ap (λ (k : ℕ). k * (c.format.channels * 2)) (sym first-length)

  pub begun : 0 < c.count → Reached c.stages c.count c.format block (record { a = a; b = b }) (shorter a b) c.stages c.format (length block) 0 (record { a = a; b = b })
  begun some =
      let whole : drop 0 (take c.count c.stages) ≡ take c.count c.stages = drop_zero (take c.count c.stages) in
      let n : 0 < length (take c.count c.stages) = rw (length-take-le c.count c.stages (omega (arith, ok.few))) some in
      record {
        xs = frames_of c.format.channels block;
        good = frames_are_frames c.format.channels block bytes;
        some = positive (length (frames_of c.format.channels block)) (λ q. zero_block (first_long ∙ ap (λ (k : ℕ). k * (c.format.channels * 2)) q ∙ zero-mul (c.format.channels * 2)));
        channels = ok.channels;
        source = refl;
        long = first_long;
        size = first_long ∙ sym (length_bytes c.format.channels (frames_of c.format.channels block) (frames_are_frames c.format.channels block bytes));
        suit = rw whole ok.suit;
        room = rw (whole, first-length) (sym (halves_some c.format (stages_of c) (length block) (shorter a b) n) ∙ w.room);
        sides = rw whole;
        makes = rw whole;
        keeps = rw whole (take_zero c.stages (chain_next (take c.count c.stages) (frames_of c.format.channels block) ++ drop c.count c.stages));
        tail = refl;
        form = rw whole;
      }
    where
      zero_block : length block ≡ 0 → ⊥
      zero_block q = omega (arith, w.some)

      take_zero : (l t : List Stage) → t ≡ take 0 l ++ t
      take_zero [] t = refl
      take_zero (x ∷ l) t = refl

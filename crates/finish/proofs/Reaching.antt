-- From before one stage of a finish to before the next, and to the end. Assumes nothing.
use Rattle.std.specs.Prelude.{Ok}
use mathlib.Core.Path.{◌≡◌, refl, sym, ap, ap₂, ◌∙◌, subst}
use mathlib.Core.Bool.{true}
use mathlib.Core.List.{List, [], ◌∷◌}
use Prim.Native.Nat.{ℕ, ◌+◌, ◌*◌, ◌/◌, ◌≤◌, ◌<◌}
use native.Mathlib.Nat.{mul-div_cancel, mul-mod_left, zero-mul}
use native.Mathlib.Numerals.{add-one}
use native.Mathlib.Omega.{arith}
use lib.ListN.{length, take, drop, get_or, length-take}
use lib.Seq.{drop-cons}
use Rattle.std.proofs.Common.{drop_of_length-le}
use Rattle.pcm.specs.declared.PcmFormat.{PcmFormat}
use Rattle.pcm.specs.Frames.{Frame, FramesOf, frames_of, bytes_of}
use Rattle.pcm.specs.laws.Frames.{length_bytes, frames_bytes, frames-nil}
use Rattle.stage.specs.declared.Stage.{Stage}
use Rattle.stage.specs.Stages.{stage_clipped, format_after}
use Rattle.stage.specs.Rooms.{stage_suits}
use Rattle.stage.specs.laws.Rooms.{channels_after, suits_bounded}
use Rattle.ending.specs.StageEnd.{stage_end, frames_at_end}
use Rattle.end_turns.specs.EndTurns.{ServedToEnd}
use Rattle.ending.specs.laws.StageEnd.{stage_end_count, end_wanted_holds}
use Rattle.pipeline.specs.declared.Pipeline.{Pipeline}
use Rattle.pipeline.specs.Reset.{format_leaving}
use Rattle.turns.specs.Turns.{Halves, source_at, target_at, TurnAsks}
use Rattle.block.specs.BlockCall.{put, suited, shorter}
use Rattle.block.specs.laws.Steps.{drop_zero}
use Rattle.block.specs.laws.Reaching.{Sized, put_sized, target_long, next_source}
use Rattle.block.specs.laws.Bounds.{suited_first, suited_rest, legal_parts}
use Rattle.block.specs.laws.Clips.{Clips, clips_first, clips_fit, clips_next}
use Rattle.finish.specs.FinishCall.{chain_end, end_clipped, room_at_end, end_verdict, ended_halves}
use Rattle.finish.specs.Turns.{EndTurn, Finishes}
use Rattle.finish.specs.laws.Stepping.{end_first, end_rest}

-- before stage i + 1, which takes xs: `format` and `before` are the call's format and halves, and so many samples were held back
pub record EndReached (stages : List Stage) (count : ℕ) (format : PcmFormat) (before : Halves) (short : ℕ) (f : PcmFormat) (n i : ℕ) (h : Halves) (clipped : ℕ) : Type 0 where
  pub xs : List Frame
  pub good : FramesOf f.channels xs
  pub channels : (0 < f.channels) × (f.channels ≤ 2)
  pub source : frames_of f.channels (source_at i n [] h) ≡ xs
  pub long : length (source_at i n [] h) ≡ length xs * (f.channels * 2)
  pub size : n ≡ length (bytes_of xs)
  pub within : n ≤ short
  pub suit : suited f (drop i (take count stages)) ≡ true
  pub room : end_verdict f (drop i (take count stages)) (length xs) short ≡ Ok tt
  pub sides : ended_halves 0 format (take count stages) [] before ≡ ended_halves i f (drop i (take count stages)) xs h
  pub makes : chain_end format (take count stages) [] ≡ chain_end f (drop i (take count stages)) xs
  pub clips : Clips count (end_clipped format (take count stages) []) format.rate (end_clipped f (drop i (take count stages)) xs) f (length xs) i clipped
  pub form : format_leaving format (take count stages) ≡ format_leaving f (drop i (take count stages))

-- ---- small laws
module _ (f : PcmFormat) (s : Stage) (rest : List Stage) where
  ended_cons : (i : ℕ) (xs : List Frame) (h : Halves)
      → ended_halves i f (s ∷ rest) xs h ≡ ended_halves (i + 1) (format_after f s.kind) rest (stage_end f.channels s xs) (put i (bytes_of (stage_end f.channels s xs)) h)
  unfolding ended_halves
  ended_cons i xs h = rw add-one

  chain_end_cons : (xs : List Frame) → chain_end f (s ∷ rest) xs ≡ chain_end (format_after f s.kind) rest (stage_end f.channels s xs)
  unfolding chain_end
  chain_end_cons xs = refl

  end_clipped_cons : (xs : List Frame) → end_clipped f (s ∷ rest) xs ≡ stage_clipped s xs + end_clipped (format_after f s.kind) rest (stage_end f.channels s xs)
  unfolding end_clipped
  end_clipped_cons xs = refl

  leaving_cons : format_leaving f (s ∷ rest) ≡ format_leaving (format_after f s.kind) rest
  unfolding format_leaving
  leaving_cons = refl

leaving_none : (f : PcmFormat) → format_leaving f [] ≡ f
unfolding format_leaving
leaving_none f = refl

ended_none : (i : ℕ) (f : PcmFormat) (xs : List Frame) (h : Halves) → ended_halves i f [] xs h ≡ h
unfolding ended_halves
ended_none i f xs h = refl

chain_end_none : (f : PcmFormat) (xs : List Frame) → chain_end f [] xs ≡ xs
unfolding chain_end
chain_end_none f xs = refl

end_clipped_none : (f : PcmFormat) (xs : List Frame) → end_clipped f [] xs ≡ 0
unfolding end_clipped
end_clipped_none f xs = refl

-- ---- one stage
module _ (stages : List Stage) (count : ℕ) (format : PcmFormat) (before : Halves) (short : ℕ) (f : PcmFormat) (n i : ℕ) (h : Halves) (clipped : ℕ) (d : Stage)
    (r : EndReached stages count format before short f n i h clipped) (there : i < length (take count stages)) (top : count ≤ 8)
    (in_a : short ≤ length h.a) (in_b : short ≤ length h.b) where
  abbrev s : Stage
  s = get_or (take count stages) i d

  abbrev rest : List Stage
  rest = drop (i + 1) (take count stages)

  more : i < count
  more = omega (arith, simp length-take at there)

  ahead : drop i (take count stages) ≡ s ∷ rest
  ahead =
      drop-cons (take count stages) i d there ∙ ap (λ (n : ℕ). s ∷ drop n (take count stages)) (sym (add-one i))

  suit_all : suited f (s ∷ rest) ≡ true
  suit_all = sym (ap (suited f) ahead) ∙ r.suit

  suit_here : stage_suits f s.kind s.memory ≡ true
  suit_here = suited_first f s rest suit_all

  room_all : end_verdict f (s ∷ rest) (length r.xs) short ≡ Ok tt
  room_all = sym (ap (λ (l : List Stage). end_verdict f l (length r.xs) short) ahead) ∙ r.room

  room_here : frames_at_end s.kind s.memory (length r.xs) * ((format_after f s.kind).channels * 2) ≤ short
  unfolding room_at_end
  room_here = end_first f s rest (length r.xs) short room_all

  frames_here : length (source_at i n [] h) / (f.channels * 2) ≡ length r.xs
  frames_here = ap (λ (k : ℕ). k / (f.channels * 2)) r.long ∙ mul-div_cancel (length r.xs) (let p : 0 < f.channels * 2 = omega (arith, r.channels.0) in p)

  served : ServedToEnd f s (source_at i n [] h) (target_at i h)
  served = record {
    suit = suit_here;
    channels = r.channels;
    whole = rw r.long (mul-mod_left (length r.xs) (f.channels * 2));
    room = rw frames_here (target_long i h (frames_at_end s.kind s.memory (length r.xs) * ((format_after f s.kind).channels * 2)) (omega (arith, room_here)) (omega (arith, room_here)));
  }

  -- what its turn asks
  pub asks : TurnAsks i n [] h (ServedToEnd f s)
  asks = record { reads = r.long ∙ sym (length_bytes f.channels r.xs r.good) ∙ sym r.size; asks = served }

  -- the stage has had its turn
  -- the sum of what was held back fits
  pub sum_fits : {held : ℕ} → held ≡ stage_clipped s (frames_of f.channels (source_at i n [] h)) → clipped + held ≤ 38400000000000
  sum_fits q = clips_fit count _ format.rate _ f _ i clipped r.clips more top s r.xs refl r.good r.channels.1 (q ∙ ap (stage_clipped s) r.source)

  module _ (m held : ℕ) (g : PcmFormat) (h' : Halves) (t : EndTurn f s (frames_of f.channels (source_at i n [] h)) i m held h h') (e : g ≡ format_after f s.kind) where
    abbrev out : List Frame
    out = stage_end f.channels s r.xs

    size_is : m ≡ length (bytes_of out)
    size_is = t.size ∙ ap (λ (xs : List Frame). length (bytes_of (stage_end f.channels s xs))) r.source

    halves_are : h' ≡ put i (bytes_of out) h
    halves_are = t.gives ∙ ap (λ (xs : List Frame). put i (bytes_of (stage_end f.channels s xs)) h) r.source

    good_out : FramesOf g.channels out
    good_out = subst (λ (k : PcmFormat). FramesOf k.channels out) (sym e)
        (subst (λ (xs : List Frame). FramesOf f.channels xs → FramesOf (format_after f s.kind).channels (stage_end f.channels s xs)) r.source t.frames r.good)

    count_out : length out ≡ frames_at_end s.kind s.memory (length r.xs)
    count_out = stage_end_count f f.channels s r.xs suit_here

    long_out : length (bytes_of out) ≡ length out * (g.channels * 2)
    long_out = length_bytes g.channels out good_out

    few_channels : (0 < g.channels) × (g.channels ≤ 2)
    few_channels = subst (λ (k : PcmFormat). (0 < k.channels) × (k.channels ≤ 2)) (sym e) (channels_after f s.kind r.channels)

    within_out : m ≤ short
    within_out =
        let a : length out * (g.channels * 2) ≤ short =
        subst (λ (k : PcmFormat). length out * (k.channels * 2) ≤ short) (sym e)
        (subst (λ (k : ℕ). k * ((format_after f s.kind).channels * 2) ≤ short) (sym count_out) room_here) in
        omega (arith, size_is, long_out)

    pub sized_out : Sized h h'
    sized_out = subst (Sized h) (sym halves_are) (put_sized i (bytes_of out) h (omega (arith, size_is, within_out)) (omega (arith, size_is, within_out)))

    clips_out : Clips count (end_clipped format (take count stages) []) format.rate (end_clipped g rest out) g (length out) (i + 1) (clipped + held)
    clips_out =
        clips_next count _ format.rate _ f _ i clipped r.clips more top s r.xs refl r.good r.channels.1 (t.holds ∙ ap (stage_clipped s) r.source)
        (ap (λ (l : List Stage). end_clipped f l r.xs) ahead ∙ end_clipped_cons f s rest r.xs ∙ ap (λ (k : PcmFormat). stage_clipped s r.xs + end_clipped k rest out) (sym e))
        suit_here (rw count_out (end_wanted_holds s.kind s.memory (length r.xs) (suits_bounded f s.kind s.memory suit_here))) e

    pub next_reached : EndReached stages count format before short g m (i + 1) h' (clipped + held)
    next_reached =
        let src : source_at (i + 1) m [] h' ≡ bytes_of out = ap (source_at (i + 1) m []) halves_are ∙ next_source i m [] (bytes_of out) h size_is in
        record {
          xs = out;
          good = good_out;
          channels = few_channels;
          source = ap (frames_of g.channels) src ∙ frames_bytes g.channels out few_channels.0 good_out;
          long = ap length src ∙ long_out;
          size = size_is;
          within = within_out;
          suit = ap (λ (k : PcmFormat). suited k rest) e ∙ suited_rest f s rest suit_all;
          room = ap₂ (λ (k : PcmFormat) (c : ℕ). end_verdict k rest c short) e count_out ∙ end_rest f s rest (length r.xs) short room_all;
          sides = r.sides ∙ ap (λ (l : List Stage). ended_halves i f l r.xs h) ahead ∙ ended_cons f s rest i r.xs h
              ∙ ap₂ (λ (k : PcmFormat) (x : Halves). ended_halves (i + 1) k rest out x) (sym e) (sym halves_are);
          makes = r.makes ∙ ap (λ (l : List Stage). chain_end f l r.xs) ahead ∙ chain_end_cons f s rest r.xs ∙ ap (λ (k : PcmFormat). chain_end k rest out) (sym e);
          clips = clips_out;
          form = r.form ∙ ap (format_leaving f) ahead ∙ leaving_cons f s rest ∙ ap (λ (k : PcmFormat). format_leaving k rest) (sym e);
        }

-- ---- past the last stage
module _ (stages : List Stage) (count : ℕ) (format : PcmFormat) (before : Halves) (short : ℕ) (f : PcmFormat) (n i : ℕ) (h : Halves) (clipped : ℕ)
    (r : EndReached stages count format before short f n i h clipped) (last : length (take count stages) ≤ i) where
  over : drop i (take count stages) ≡ []
  over = drop_of_length-le (take count stages) last

  pub ended_size : n ≡ length (bytes_of (chain_end format (take count stages) []))
  ended_size = r.size ∙ ap (λ (xs : List Frame). length (bytes_of xs)) (sym (r.makes ∙ ap (λ (l : List Stage). chain_end f l r.xs) over ∙ chain_end_none f r.xs))

  pub ended_clipped : clipped ≡ end_clipped format (take count stages) []
  ended_clipped = omega (arith, r.clips.is, ap (λ (l : List Stage). end_clipped f l r.xs) over, end_clipped_none f r.xs)

  pub ended_format : f ≡ format_leaving format (take count stages)
  ended_format = sym (r.form ∙ ap (format_leaving f) over ∙ leaving_none f)

  pub ended_halves_lem : h ≡ ended_halves 0 format (take count stages) [] before
  ended_halves_lem = sym (r.sides ∙ ap (λ (l : List Stage). ended_halves i f l r.xs h) over ∙ ended_none i f r.xs h)

-- ---- before the first stage nothing has arrived
pub begun : (c : Pipeline) (a b : List ℕ) → Finishes c a b
    → EndReached c.stages c.count c.format (record { a = a; b = b }) (shorter a b) c.format 0 0 (record { a = a; b = b }) 0
unfolding bytes_of
begun c a b w =
    let ok = legal_parts c w.chain in
    let whole : drop 0 (take c.count c.stages) ≡ take c.count c.stages = drop_zero (take c.count c.stages) in
    record {
      xs = [];
      good = tt;
      channels = ok.channels;
      source = frames-nil c.format.channels;
      long = sym (zero-mul (c.format.channels * 2));
      size = refl;
      within = omega arith;
      suit = rw whole ok.suit;
      room = rw whole w.room;
      sides = rw whole;
      makes = rw whole;
      form = rw whole;
      clips = rw whole (clips_first c.count _ c.format.rate c.format 0 ok.rate refl (omega arith));
    }

-- Laws of the definitions in PlainRoom. Assumes nothing.
use Rattle.std.specs.Prelude.{◌≡◌, refl, Bool, true, false, cond, List, [], ◌∷◌, ◌++◌, map, ℕ, ◌*◌, ◌<◌, eqb, leb, length, drop}
use Rattle.std.proofs.Common.{sym, ap, ap₂, ◌∙◌, subst, le_refl, suc-ne-zero, lt-ltb, ne_eqb, drop_at}
use Rattle.pcm.specs.declared.PcmFormat.{PcmFormat}
use Rattle.pcm.specs.declared.Error.TheVariants.{BufferTooSmall}
use Rattle.pcm.specs.Formats.{format_allowed}
use Rattle.pcm.specs.Refusals.{ask}
use Rattle.pcm.specs.Frames.{Frame, frames_of}
use Rattle.pcm.specs.laws.Frames.{length_frames}
use Rattle.rates.specs.declared.LinearResampler.{LinearResampler}
use Rattle.rates.specs.laws.Counting.{past_below}
use Rattle.rates.specs.Rates.{opened_state}
use Rattle.resample.specs.Resample.{gaps, among, first_at, carried_state, state_after, state_whole}
use Rattle.resample.specs.laws.Blocks.{state_is_whole}
use Rattle.stage.specs.declared.Stage.{Stage}
use Rattle.stage.specs.declared.StageKind.{StageKind}
use Rattle.stage.specs.declared.StageKind.TheVariants as kind
use Rattle.stage.specs.Stages.{stage_out, stage_as_opened, memory_as_opened, format_after}
use Rattle.stage.specs.laws.Stages.{stage_out-append}
use Rattle.pcm.specs.laws.Tests.{both}
use Rattle.stage.specs.Rooms.{stage_suits, rates_suit, room_wanted}
use Rattle.stage.specs.laws.Rooms.{resamples, stage_count}
use Rattle.pipeline.specs.declared.Pipeline.{Pipeline}
use Rattle.pipeline.specs.WritingBack.{stages_of}
use Rattle.block.specs.BlockCall.{suited, legal, rooms_verdict, halves_verdict, block_verdict}
use Rattle.block.specs.laws.Bounds.{suited_first, suited_rest}
use Rattle.stream.specs.PlainChain.{plain_stage, plain_memory, plain_state}
use Rattle.stream.proofs.laws.PlainChain.{stage_is_plain, memory_is_plain}
use Rattle.stream.specs.PlainRoom.{delivered_next, plain_room, plain_halves, plain_verdict}

-- ---- the stages in their sound state suit as those opened did
phase_below : (r : LinearResampler) (X : List Frame) → 0 < r.in_r → (state_whole r X).phase < r.in_r
unfolding state_after carried_state first_at
phase_below r X h = subst (λ s. s.phase < r.in_r) (state_is_whole r X) (go (eqb r.in_rate r.out_rate) X)
  where
    go : (b : Bool) (X : List Frame) → (cond b opened_state (carried_state r.in_r r.out_r opened_state X)).phase < r.in_r
    go true X = h
    go false [] = h
    go false (x ∷ xs) = past_below r.in_r h r.in_r 0 (gaps (among opened_state (x ∷ xs)) * r.out_r) (le_refl r.in_r) h

pub suits_still : (f : PcmFormat) (k : StageKind) (X : List Frame) → stage_suits f k memory_as_opened ≡ true → stage_suits f k (plain_memory k X) ≡ true
unfolding stage_suits plain_memory
suits_still f (kind.Gain g) X h = h
suits_still f kind.MonoToStereo X h = h
suits_still f kind.StereoToMono X h = h
suits_still f (kind.Resample r) X h =
    let a = both (rates_suit r) _ h in
    let b = both (eqb f.rate r.in_rate) _ a.1 in
    rw (a.0, b.0, lt-ltb _ _ (phase_below r X (resamples f r memory_as_opened h).rates.in_r.0))
suits_still f (kind.DcBlock b) X h = h
suits_still f (kind.Biquad b) X h = h

pub suited_still : (f : PcmFormat) (ks : List StageKind) (X : List Frame) → suited f (map stage_as_opened ks) ≡ true → suited f (plain_state ks X) ≡ true
unfolding suited plain_state
suited_still f [] X h = refl
suited_still f (k ∷ ks) X h =
    rw (suits_still f k X (suited_first f (stage_as_opened k) (map stage_as_opened ks) h)) (suited_still (format_after f k) ks (plain_stage k X) (suited_rest f (stage_as_opened k) (map stage_as_opened ks) h))

-- ---- the questions by counts are those of the plain chain
delivered_next_lem : (k : StageKind) (X Y : List Frame) → delivered_next k X Y ≡ stage_out (record { kind = k; memory = plain_memory k X }) Y
delivered_next_lem k X Y =
    let e : plain_stage k (X ++ Y) ≡ plain_stage k X ++ stage_out (record { kind = k; memory = plain_memory k X }) Y =
    sym (stage_is_plain k (X ++ Y)) ∙ stage_out-append (stage_as_opened k) X Y
    ∙ ap₂ (λ (l : List Frame) (s : Stage). l ++ stage_out s Y) (stage_is_plain k X) (memory_is_plain k X) in
    ap (drop (length (plain_stage k X))) e ∙ drop_at (plain_stage k X) _ (length (plain_stage k X)) refl

pub room_is_plain : (f : PcmFormat) (ks : List StageKind) (X Y : List Frame) (shorter : ℕ) → rooms_verdict f (plain_state ks X) (length Y) shorter ≡ plain_room f ks X Y shorter
unfolding rooms_verdict plain_room plain_state
room_is_plain f [] X Y shorter = refl
room_is_plain f (k ∷ ks) X [] shorter = refl
room_is_plain f (k ∷ ks) X (y ∷ Y) shorter =
    let e : length (delivered_next k X (y ∷ Y)) ≡ _ = ap length (delivered_next_lem k X (y ∷ Y)) ∙ stage_count (record { kind = k; memory = plain_memory k X }) (y ∷ Y) in
    rw (ne_eqb (length (y ∷ Y)) 0 (suc-ne-zero (length Y)), ← e)
    (ap (ask (leb (room_wanted f k (length (y ∷ Y))) shorter) (BufferTooSmall (2 * room_wanted f k (length (y ∷ Y)))))
    (room_is_plain (format_after f k) ks (plain_stage k X) (delivered_next k X (y ∷ Y)) shorter))

halves_are_plain : (f : PcmFormat) (ks : List StageKind) (X : List Frame) (bytes : List ℕ) (shorter : ℕ) → halves_verdict f (plain_state ks X) (length bytes) shorter ≡ plain_halves f ks X bytes shorter
unfolding plain_state
halves_are_plain f [] X bytes shorter = refl
halves_are_plain f (k ∷ ks) X bytes shorter =
    ap (λ (n : ℕ). rooms_verdict f (plain_state (k ∷ ks) X) n shorter) (sym (length_frames f.channels bytes)) ∙ room_is_plain f (k ∷ ks) X (frames_of f.channels bytes) shorter

-- of a chain with the format f that was opened with stages of the kinds ks, after the stream X
pub verdict_is_plain : (c : Pipeline) (f : PcmFormat) (ks : List StageKind) (X : List Frame)
    → leb c.count 8 ≡ true → format_allowed f ≡ true → suited f (map stage_as_opened ks) ≡ true → c.format ≡ f → stages_of c ≡ plain_state ks X
    → (format : PcmFormat) (bytes : List ℕ) (shorter : ℕ) → block_verdict c format (length bytes) shorter ≡ plain_verdict f ks X format bytes shorter
unfolding block_verdict plain_verdict legal
verdict_is_plain c f ks X few allowed suit e s format bytes shorter =
    rw (e, s, few, allowed, suited_still f ks X suit, halves_are_plain f ks X bytes shorter)

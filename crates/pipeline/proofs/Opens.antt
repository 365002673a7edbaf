-- The invariant of opening: the stages so far, and what is left to open. Assumes nothing.
use Rattle.std.specs.Prelude.{Ok, Err}
use mathlib.Core.Path.{◌≡◌, refl, sym, ap, ◌∙◌}
use mathlib.Core.Bool.{true, false}
use mathlib.Core.List.{List, [], ◌∷◌, ◌++◌, append_assoc, append-nil}
use Prim.Native.Nat.{ℕ, suc, ◌+◌, ◌-◌, ◌≤◌, ◌<◌}
use native.Mathlib.Omega.{arith}
use lib.ListN.{length, set, replicate, length-append}
use lib.Seq.{set_at}
use Rattle.pcm.specs.declared.PcmFormat.{PcmFormat}
use Rattle.pcm.specs.declared.Error.{Error}
use Rattle.pcm.specs.declared.Error.TheVariants.{InvalidFormat}
use Rattle.pcm.specs.Formats.{rate_allowed, format_allowed, channels_allowed}
use Rattle.stage.specs.declared.StageKind.{StageKind}
use Rattle.stage.specs.declared.Stage.{Stage}
use Rattle.stage.specs.Stages.{stage_as_opened, format_after}
use Rattle.pcm.specs.laws.Tests.{both}
use Rattle.recipe.specs.declared.Record.{Record}
use Rattle.recipe.specs.declared.Entry.TheVariants as entry
use Rattle.recipe.specs.Records.{record_at, read_record, records}
use Rattle.pipeline.specs.Opening.{Stages, opened, refused, front, open_records, open_stages, chain_of, open_call, unused_stage}
use Rattle.opening.specs.Opening.{stage_answer, stage_verdict, stage_kind_of}
use Rattle.pipeline.proofs.OpeningLaws.{StageRead, read_stage, read_note, read_refused, rate_after}
use Rattle.pipeline.proofs.laws.Opening.{stage_accepted, stage_refused, stage_fits, open_short, open_note, open_unfit, open_next}

-- stages before what is left to open
abbrev pub joined : List Stage → Stages → Stages
joined done (opened ss) = opened (done ++ ss)
joined done (refused e) = refused e

joined_none : (x : Stages) → x ≡ joined [] x
joined_none (opened ss) = refl
joined_none (refused e) = refl

joined_front : (done : List Stage) (s : Stage) (x : Stages) → joined done (front s x) ≡ joined (done ++ (s ∷ [])) x
joined_front done s (opened ss) = ap opened (sym (append_assoc done (s ∷ []) ss))
joined_front done s (refused e) = refl

-- `count` stages stand at the front of `stages`, the format `reaching` leaves the last, and the records `left` are to come
pub record Opens (f : PcmFormat) (bytes : List ℕ) (stages : List Stage) (reaching : PcmFormat) (count : ℕ) (left : List (List ℕ)) : Type 0 where
  pub done : List Stage
  pub many : count ≡ length done
  pub few : count ≤ 8
  pub placed : stages ≡ done ++ replicate (8 - count) unused_stage
  pub rate : rate_allowed reaching.rate ≡ true
  pub is : open_stages 8 f bytes ≡ joined done (open_records (8 - count) reaching left)

pub opens_start : (f : PcmFormat) (bytes : List ℕ) → format_allowed f ≡ true → Opens f bytes (replicate 8 unused_stage) f 0 (records bytes)
unfolding format_allowed open_stages
opens_start f bytes h = record {
  done = [];
  many = refl;
  few = omega arith;
  placed = refl;
  rate = (both (channels_allowed f.channels) (rate_allowed f.rate) h).1;
  is = joined_none (open_stages 8 f bytes);
}

-- no records are left
pub opens_end : {f : PcmFormat} {bytes : List ℕ} {stages : List Stage} {reaching : PcmFormat} {count : ℕ} (o : Opens f bytes stages reaching count []) → open_stages 8 f bytes ≡ opened o.done
unfolding open_records
opens_end o = o.is ∙ ap opened (append-nil o.done)

module _ {f : PcmFormat} {bytes : List ℕ} {stages : List Stage} {reaching : PcmFormat} {count : ℕ} {left : List ℕ} {later : List (List ℕ)} (o : Opens f bytes stages reaching count (left ∷ later)) where
  -- the next record's bytes are refused
  pub opens_short : {x : Error} → read_record left ≡ Err x → open_stages 8 f bytes ≡ refused x
  opens_short e = o.is ∙ ap (joined o.done) (open_short reaching (8 - count) left later (read_refused left e))

  -- the next record is a note
  pub opens_note : {n : ℕ} → read_record left ≡ Ok (entry.Note n) → Opens f bytes stages reaching count later
  opens_note e =
      let noted = read_note left e in
      record {
        done = o.done;
        many = o.many;
        few = o.few;
        placed = o.placed;
        rate = o.rate;
        is = o.is ∙ ap (joined o.done) (open_note reaching (8 - count) left later noted.accepted noted.note);
      }

  -- the next record is a stage's
  module _ {r : Record} (e : read_record left ≡ Ok (entry.Stage r)) where
    found : StageRead left r
    found = read_stage left e

    -- its stage is refused
    pub opens_unfit : {x : Error} → stage_answer (8 - count) reaching r ≡ Err x → open_stages 8 f bytes ≡ refused x
    opens_unfit q = o.is ∙ ap (joined o.done) (open_unfit reaching (8 - count) left later found.accepted found.stage (rw found.is (stage_refused (8 - count) reaching r q)))

    -- its stage is taken
    module _ {k : StageKind} (q : stage_answer (8 - count) reaching r ≡ Ok k) where
      pub opens_room : count < 8
      opens_room = let m = (stage_fits (8 - count) reaching r (stage_accepted (8 - count) reaching r q).0).0 in omega arith

      kind_is : stage_kind_of reaching (record_at left) ≡ k
      kind_is = rw found.is (stage_accepted (8 - count) reaching r q).1

      fewer : 8 - count ≡ suc (7 - count)
      fewer = let m = opens_room in omega arith

      fewer_next : 8 - (count + 1) ≡ 7 - count
      fewer_next = let m = opens_room in omega arith

      placed_next : set stages count (stage_as_opened k) ≡ (o.done ++ (stage_as_opened k ∷ [])) ++ replicate (8 - (count + 1)) unused_stage
      placed_next =
          ap (λ (l : List Stage). set l count (stage_as_opened k)) (o.placed ∙ ap (λ (n : ℕ). o.done ++ replicate n unused_stage) fewer)
          ∙ set_at o.done unused_stage (replicate (7 - count) unused_stage) (stage_as_opened k) count (sym o.many)
          ∙ sym (append_assoc o.done (stage_as_opened k ∷ []) (replicate (7 - count) unused_stage))
          ∙ ap (λ (n : ℕ). (o.done ++ (stage_as_opened k ∷ [])) ++ replicate n unused_stage) (sym fewer_next)

      one_fewer : 8 - count - 1 ≡ 8 - (count + 1)
      one_fewer = omega arith

      is_next : open_records (8 - count) reaching (left ∷ later) ≡ front (stage_as_opened k) (open_records (8 - (count + 1)) (format_after reaching k) later)
      is_next =
          let v : stage_verdict (8 - count) reaching (record_at left) ≡ Ok tt = rw found.is (stage_accepted (8 - count) reaching r q).0 in
          open_next reaching (8 - count) left later found.accepted found.stage v
          ∙ ap (λ (x : StageKind). front (stage_as_opened x) (open_records (8 - count - 1) (format_after reaching x) later)) kind_is
          ∙ ap (λ (n : ℕ). front (stage_as_opened k) (open_records n (format_after reaching k) later)) one_fewer

      pub opens_next : Opens f bytes (set stages count (stage_as_opened k)) (format_after reaching k) (count + 1) later
      opens_next = record {
        done = o.done ++ (stage_as_opened k ∷ []);
        many = let l = length-append o.done (stage_as_opened k ∷ []) in let m = o.many in omega arith;
        few = let m = opens_room in omega arith;
        placed = placed_next;
        rate =
            let a = stage_accepted (8 - count) reaching r q in
            rw a.1 at (rate_after reaching r o.rate (stage_fits (8 - count) reaching r a.0).1);
        is = o.is ∙ ap (joined o.done) is_next ∙ joined_front o.done (stage_as_opened k) (open_records (8 - (count + 1)) (format_after reaching k) later);
      }

-- ---- the call's answer
module _ (f : PcmFormat) (bytes : List ℕ) where
  pub call_format : format_allowed f ≡ false → open_call f bytes ≡ Err InvalidFormat
  unfolding open_call
  call_format h = rw h

  module _ (h : format_allowed f ≡ true) where
    pub call_refused : {x : Error} → open_stages 8 f bytes ≡ refused x → open_call f bytes ≡ Err x
    unfolding open_call
    call_refused e = rw (h, e)

    pub call_opened : {ss : List Stage} → open_stages 8 f bytes ≡ opened ss → open_call f bytes ≡ Ok (chain_of f ss)
    unfolding open_call
    call_opened e = rw (h, e)

pub chain_is : (f : PcmFormat) (ss : List Stage) → chain_of f ss ≡ record { stages = ss ++ replicate (8 - length ss) unused_stage; count = length ss; format = f; blocks = 0; empty_blocks = 0 }
unfolding chain_of
chain_is f ss = refl

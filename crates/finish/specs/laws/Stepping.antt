-- The questions of a finish, one stage at a time, and that the walk asks them. Assumes nothing.
use Rattle.std.specs.Prelude.{◌≡◌, Bool, cond, ◌&&◌, List, [], ◌∷◌, ℕ, ◌*◌, ◌≤◌, ◌<◌, eqb, leb, Option, None, Some, Result, Ok, Err}
use Rattle.std.proofs.Math.Path.{refl, ap}
use Rattle.std.proofs.Common.{sym, ap₂, ◌∙◌, zero-mul, arith}
use Rattle.std.proofs.Math.Bool.{true, false}
use borrow.Author.Tests.{le-leb, lt-leb, leb-true, leb-false}
use Rattle.pcm.specs.declared.PcmFormat.{PcmFormat}
use Rattle.pcm.specs.declared.Error.{Error}
use Rattle.pcm.specs.declared.Error.TheVariants.{InvalidFormat, BufferTooSmall}
use Rattle.pcm.specs.Formats.{format_allowed}
use Rattle.pcm.specs.Refusals.{ask, Verdict}
use Rattle.stage.specs.declared.Stage.{Stage}
use Rattle.stage.specs.Stages.{format_after}
use Rattle.ending.specs.StageEnd.{frames_at_end}
use Rattle.pipeline.specs.declared.Pipeline.{Pipeline}
use Rattle.questions.specs.declared.Question.TheVariants.{Finish}
use Rattle.questions.specs.declared.Walk.{Walk}
use Rattle.pipeline.specs.WritingBack.{stages_of}
use Rattle.block.specs.BlockCall.{legal, suited}
use Rattle.questions.specs.Walk.{begun, head_legal, size_verdict, block_frames, due_of, first_short, room_of, further, copy_room, walked, along, short_verdict}
use Rattle.block.specs.laws.Walking.{short_then, short_before, room_held, room_not_held, if_suited, walked_is, legal_is}
use Rattle.pcm.specs.laws.Refusals.{ask_yes}
use Rattle.finish.specs.FinishCall.{room_at_end, end_verdict, finish_verdict}
use Rattle.finish.specs.Turns.{end_from}

end_none : (f : PcmFormat) (n shorter : ℕ) → end_verdict f [] n shorter ≡ Ok tt
unfolding end_verdict
end_none f n shorter = refl

module _ (f : PcmFormat) (s : Stage) (rest : List Stage) (n shorter : ℕ) where
  end_short : (room : ℕ) → room ≡ room_at_end f s n → shorter < room → end_verdict f (s ∷ rest) n shorter ≡ Err (BufferTooSmall (2 * room))
  unfolding end_verdict
  end_short room e l = rw (← e, lt-leb room shorter l)

  end_next : (room m : ℕ) (g : PcmFormat) → room ≡ room_at_end f s n → room ≤ shorter → m ≡ frames_at_end s.kind s.memory n → g ≡ format_after f s.kind
      → end_verdict f (s ∷ rest) n shorter ≡ end_verdict g rest m shorter
  unfolding end_verdict
  end_next room m g e l i j = rw (← e, le-leb room shorter l, i, j)

  -- what an accepted finish's stage finds
  pub end_first : end_verdict f (s ∷ rest) n shorter ≡ Ok tt → room_at_end f s n ≤ shorter
  unfolding end_verdict
  end_first e = leb-true _ _ (ask_yes (leb (room_at_end f s n) shorter) _ _ e).0

  pub end_rest : end_verdict f (s ∷ rest) n shorter ≡ Ok tt → end_verdict (format_after f s.kind) rest (frames_at_end s.kind s.memory n) shorter ≡ Ok tt
  unfolding end_verdict
  end_rest e = (ask_yes (leb (room_at_end f s n) shorter) _ _ e).1

-- one stage's room, asked or found short before
module _ (shorter : ℕ) (w : Walk) (s : Stage) (l : List Stage) where
  abbrev room : ℕ
  room = room_at_end w.format s w.frames

  abbrev then : Verdict
  then = end_verdict (format_after w.format s.kind) l (frames_at_end s.kind s.memory w.frames) shorter

  abbrev whole : Verdict
  whole = end_verdict w.format (s ∷ l) w.frames shorter

  room_asked : (u : Bool) → leb room shorter ≡ u → short_then (first_short shorter None room) then ≡ whole
  room_asked true k =
      let h = leb-true room shorter k in
      ap (λ (o : Option ℕ). short_then o then) (room_held shorter room h)
      ∙ sym (end_next w.format s l w.frames shorter room (frames_at_end s.kind s.memory w.frames) (format_after w.format s.kind) refl h refl refl)
  room_asked false k =
      let h : shorter < room = leb-false room shorter k in
      ap (λ (o : Option ℕ). short_then o then) (room_not_held shorter room h) ∙ sym (end_short w.format s l w.frames shorter room refl h)

  step_short : (short : Option ℕ) → short_then (first_short shorter short room) then ≡ short_then short whole
  step_short None = room_asked (leb room shorter) refl
  step_short (Some n) = ap (λ (o : Option ℕ). short_then o then) (short_before shorter room n)

  further_short : short_then (further Finish shorter w s).short (end_verdict (further Finish shorter w s).format l (further Finish shorter w s).frames shorter) ≡ short_then (first_short shorter w.short room) then
  unfolding further room_of due_of room_at_end
  further_short = refl

no_more : (w : Walk) (shorter : ℕ) → short_verdict w.short ≡ short_then w.short (end_verdict w.format [] w.frames shorter)
no_more w shorter = go w.short ∙ ap (short_then w.short) (sym (end_none w.format w.frames shorter))
  where
    go : (o : Option ℕ) → short_verdict o ≡ short_then o (Ok tt)
    go None = refl
    go (Some n) = refl

-- the first stage short is the one that the verdict names
along_end : (shorter : ℕ) (w : Walk) (l : List Stage) → short_verdict (along Finish shorter w l).short ≡ short_then w.short (end_verdict w.format l w.frames shorter)
unfolding along
along_end shorter w [] = no_more w shorter
along_end shorter w (s ∷ l) = along_end shorter (further Finish shorter w s) l ∙ further_short shorter w s l ∙ step_short shorter w s l w.short

-- ---- what the walk answers is the verdict
pub head_refused : (c : Pipeline) (shorter : ℕ) → head_legal c.format c.count ≡ false → Err InvalidFormat ≡ finish_verdict c shorter
unfolding finish_verdict legal
head_refused c shorter h = rw (go (leb c.count 8) (format_allowed c.format) h)
  where
    go : (t u : Bool) → (t && u) ≡ false → (t && (u && suited c.format (stages_of c))) ≡ false
    go true true e = cc
    go true false e = refl
    go false u e = refl

-- nothing arrives, and no room is wanted for it
module _ (f : PcmFormat) (count shorter : ℕ) where
  none_arrive : block_frames f 0 ≡ 0
  unfolding block_frames size_verdict
  none_arrive = refl

  start_format : (begun f count 0 shorter).format ≡ f
  unfolding begun
  start_format = refl

  pub start_frames : (begun f count 0 shorter).frames ≡ 0
  unfolding begun
  start_frames = none_arrive

  no_room : copy_room count (block_frames f 0 * (f.channels * 2)) ≡ 0
  no_room = ap (λ (n : ℕ). copy_room count (n * (f.channels * 2))) none_arrive ∙ go (eqb count 0)
    where
      go : (t : Bool) → cond t (0 * (f.channels * 2)) 0 ≡ 0
      go true = zero-mul (f.channels * 2)
      go false = refl

  start_short : (begun f count 0 shorter).short ≡ None
  unfolding begun
  start_short = ap (first_short shorter None) no_room ∙ room_held shorter 0 (omega arith)

module _ (c : Pipeline) (shorter : ℕ) (head : head_legal c.format c.count ≡ true) where
  abbrev start : Walk
  start = begun c.format c.count 0 shorter

  short_here : short_verdict (along Finish shorter start (stages_of c)).short ≡ end_verdict c.format (stages_of c) 0 shorter
  short_here =
      along_end shorter start (stages_of c) ∙ ap (λ (o : Option ℕ). short_then o (end_verdict start.format (stages_of c) start.frames shorter)) (start_short c.format c.count shorter)
      ∙ ap₂ (λ (f : PcmFormat) (n : ℕ). end_verdict f (stages_of c) n shorter) (start_format c.format c.count shorter) (start_frames c.format c.count shorter)

  pub end_is : end_from (walked Finish shorter start (stages_of c)) ≡ finish_verdict c shorter
  unfolding end_from finish_verdict
  end_is =
      ap end_from (walked_is Finish shorter start (stages_of c)) ∙ go (suited start.format (stages_of c))
      ∙ ap (λ (t : Bool). ask t InvalidFormat (end_verdict c.format (stages_of c) 0 shorter)) (ap (λ (f : PcmFormat). suited f (stages_of c)) (start_format c.format c.count shorter) ∙ sym (legal_is c 0 head))
    where
      go : (t : Bool) → end_from (if_suited t (along Finish shorter start (stages_of c))) ≡ ask t InvalidFormat (end_verdict c.format (stages_of c) 0 shorter)
      go true = short_here
      go false = refl

-- the same, of a walk that was begun so
pub end_found : (c : Pipeline) (shorter : ℕ) (begin : Walk) (r : Result Walk Error) → head_legal c.format c.count ≡ true → begin ≡ begun c.format c.count 0 shorter
    → r ≡ walked Finish shorter begin (stages_of c) → end_from r ≡ finish_verdict c shorter
end_found c shorter begin r head b e = ap end_from (e ∙ ap (λ (x : Walk). walked Finish shorter x (stages_of c)) b) ∙ end_is c shorter head

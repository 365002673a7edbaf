-- The invariant of a run: what came out so far, and what is left to play. Assumes nothing.
use Rattle.std.specs.Prelude.{Ok, Err, Result}
use mathlib.Core.Path.{◌≡◌, refl, sym, ◌∙◌}
use mathlib.Core.List.{List, [], ◌∷◌, ◌++◌}
use Prim.Native.Nat.{ℕ}
use native.Mathlib.Omega.{arith}
use lib.ListN.{length}
use Rattle.pcm.specs.declared.PcmFormat.{PcmFormat}
use Rattle.pcm.specs.declared.Error.{Error}
use Rattle.pcm.specs.Frames.{written}
use Rattle.pcm.specs.Refusals.{verdict_of}
use Rattle.pipeline.specs.declared.Pipeline.{Pipeline}
use Rattle.block.specs.BlockCall.{BlockResult, block_call}
use Rattle.finish.specs.FinishCall.{FinishResult, finish_call}
use Rattle.stream.specs.Calls.{call_output, finish_output}
use Rattle.playing.specs.Playing.{Played, PlayOutcome, unless_stopped, block_gathered, finish_gathered, play_blocks, left}
use Rattle.playing.specs.Steps.{Joined, joined_by}
use Rattle.playing.proofs.Joining.{Holds, After, onward, ended, joins, playing}

-- the whole run is that of the blocks that are left, after `got` came out
pub record Runs (whole : Played) (f : PcmFormat) (out₀ : List ℕ) (c : Pipeline) (n : ℕ) (blocks : List (List ℕ)) (a b out : List ℕ) : Type 0 where
  pub got : List ℕ
  pub holds : Holds got out₀ n out
  pub is : whole ≡ play_blocks (length out₀) f blocks (playing c a b got)

pub runs_start : (f : PcmFormat) (c : Pipeline) (blocks : List (List ℕ)) (a b out : List ℕ) → Runs (play_blocks (length out) f blocks (playing c a b [])) f out c 0 blocks a b out
unfolding written
runs_start f c blocks a b out = record { got = []; holds = record { many = refl; fits = omega arith; placed = refl }; is = refl }

never : {n : ℕ} {e : Error} → Ok n ≡ Err e → ⊥
never h = let z : ◌≡◌ {A = ℕ} 0 1 = cc in omega arith

same_bytes : {n m : ℕ} → ◌≡◌ {A = Result ℕ Error} (Ok n) (Ok m) → n ≡ m
same_bytes h = cc

abbrev pub outcome : Joined → List ℕ → List ℕ → PlayOutcome
outcome j a b = record { gathered = j.gathered; a = a; b = b; out = j.out }

module _ {whole : Played} {f : PcmFormat} {out₀ : List ℕ} {c : Pipeline} {n : ℕ} {blocks : List (List ℕ)} {a b out : List ℕ} (o : Runs whole f out₀ c n blocks a b out) where
  -- ---- a block more, whose call left r behind, and whose output was joined on
  module _ (block : List ℕ) (more : List (List ℕ)) (k : blocks ≡ block ∷ more) (r : BlockResult) (e : r ≡ block_call c f 0 block a b) (j : Joined) (q : j ≡ joined_by (verdict_of r.answer) n (call_output r) out) where
    step : whole ≡ unless_stopped (block_gathered (length out₀) r o.got) (play_blocks (length out₀) f more)
    unfolding play_blocks
    step = o.is ∙ rw (k, ← e)

    after : After o.got out₀ (call_output r) r.chain r.a r.b (block_gathered (length out₀) r o.got) j
    after = rw q (joins (call_output r) o.holds r.chain r.a r.b (verdict_of r.answer))

    pub runs_stopped : (x : Error) → j.gathered ≡ Err x → outcome j r.a r.b ≡ left out₀ whole
    runs_stopped x g = by after
      where
        by : After o.got out₀ (call_output r) r.chain r.a r.b (block_gathered (length out₀) r o.got) j → outcome j r.a r.b ≡ left out₀ whole
        by (onward p m i l) = absurd (never (sym i ∙ g))
        by (ended d p i l) = rw (step, p, i, l)

    pub runs_onward : (m : ℕ) → j.gathered ≡ Ok m → Runs whole f out₀ r.chain m more r.a r.b j.out
    runs_onward m g = by after
      where
        by : After o.got out₀ (call_output r) r.chain r.a r.b (block_gathered (length out₀) r o.got) j → Runs whole f out₀ r.chain m more r.a r.b j.out
        by (ended d p i l) = absurd (never (sym g ∙ i))
        by (onward p m' i l) =
            let s : m ≡ m' = same_bytes (sym g ∙ i) in
            record { got = o.got ++ call_output r; holds = rw s l; is = step ∙ rw p }

  -- ---- no block is left: the finish, whose call left r behind, and whose output was joined on
  module _ (k : blocks ≡ []) (r : FinishResult) (e : r ≡ finish_call c a b) (j : Joined) (q : j ≡ joined_by (verdict_of r.answer) n (finish_output r) out) where
    last : whole ≡ finish_gathered (length out₀) r o.got
    unfolding play_blocks
    last = o.is ∙ rw (k, ← e)

    pub runs_end : outcome j r.a r.b ≡ left out₀ whole
    runs_end = by (rw q (joins (finish_output r) o.holds r.chain r.a r.b (verdict_of r.answer)))
      where
        by : After o.got out₀ (finish_output r) r.chain r.a r.b (finish_gathered (length out₀) r o.got) j → outcome j r.a r.b ≡ left out₀ whole
        by (ended d p i l) = rw (last, p, i, l)
        by (onward p m i l) = rw (last, p, i, l.many, l.placed)

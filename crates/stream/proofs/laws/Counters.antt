-- Laws of the definitions in Counters. Assumes nothing.
use Rattle.std.specs.Prelude.{◌≡◌, Bool, true, false, cond, List, [], ◌∷◌, ℕ, ◌+◌, ◌≤◌, ◌<◌, eqb, leb, ltb, length, Ok, Err}
use Rattle.std.proofs.Math.Path.{refl}
use Rattle.std.proofs.Common.{sym, ap, ◌∙◌, arith, leb-true, ltb-true, ltb-false, le-leb}
use Rattle.std.proofs.Math.Nat.{add-zero}
use Rattle.std.proofs.lemmas.Bool.{lt-leb}
use Rattle.pcm.specs.declared.PcmFormat.{PcmFormat}
use Rattle.pcm.specs.declared.Error.TheVariants.{InvalidFormat}
use Rattle.pcm.specs.Formats.{format_allowed}
use Rattle.pcm.specs.Refusals.{ask, Verdict}
use Rattle.pcm.specs.Samples.{All}
use Rattle.pcm.specs.Frames.{Frame}
use Rattle.stage.specs.declared.Stage.{Stage}
use Rattle.pipeline.specs.declared.Pipeline.{Pipeline}
use Rattle.pipeline.specs.Opening.{Stages, opened, refused, asked, open_stages, chain_of, opened_of, open_call}
use Rattle.pipeline.specs.Reset.{reset_call}
use Rattle.answers.specs.declared.Answer.{Answer}
use Rattle.answers.specs.declared.Answer.TheVariants as answer
use Rattle.block.specs.BlockCall.{block_verdict, shorter, output_bytes, accepted, concluded, block_call}
use Rattle.answers.specs.Answers.{counted_up}
use Rattle.finish.specs.FinishCall.{finish_verdict, finished, finish_concluded, finish_call}
use Rattle.stream.specs.Calls.{Call, block, reset, finish, Lent, Run, after_call}
use Rattle.stream.specs.Opened.{kinds_in, FreshlyOpened}
use Rattle.stream.specs.PlainRoom.{plain_verdict}
use Rattle.stream.specs.Stream.{Stream, fed, within, after_feeding, after_calls}
use Rattle.stream.specs.FromChain.{Since}
use Rattle.stream.proofs.laws.AfterCalls.{Stands, verdict_plain, stands_within, after_call_lem}
use Rattle.stream.specs.Counters.{held_count, one_if_accepted, accepted_by, accepted_from, one_if_nothing, nothing_by, nothing_from}

-- ---- one call
one_more : (n : ℕ) → counted_up (held_count n) ≡ held_count (n + 1)
unfolding held_count
one_more n = go (ltb n 18446744073709551615) refl
  where
    go : (t : Bool) → ltb n 18446744073709551615 ≡ t
        → counted_up (cond (leb n 18446744073709551615) n 18446744073709551615) ≡ cond (leb (n + 1) 18446744073709551615) (n + 1) 18446744073709551615
    go true e =
        let h : n < 18446744073709551615 = ltb-true _ _ e in
        rw (le-leb n 18446744073709551615 (omega arith), e, le-leb (n + 1) 18446744073709551615 (omega arith))
    go false e =
        let h : 18446744073709551615 ≤ n = ltb-false _ _ e in
        full (leb n 18446744073709551615) refl ∙ rw (lt-leb (n + 1) 18446744073709551615 (omega arith))
      where
        full : (t : Bool) → leb n 18446744073709551615 ≡ t → counted_up (cond t n 18446744073709551615) ≡ 18446744073709551615
        full true k = let g : n ≤ 18446744073709551615 = leb-true _ _ k in rw e (omega (arith, ltb-false n 18446744073709551615 e))
        full false k = refl

reset_counters : (c : Pipeline) → ((reset_call c).blocks ≡ c.blocks) × ((reset_call c).empty_blocks ≡ c.empty_blocks)
unfolding reset_call
reset_counters c = go (leb c.count 8) _ refl refl
  where
    go : (t : Bool) (d : Pipeline) → d.blocks ≡ c.blocks → d.empty_blocks ≡ c.empty_blocks
        → ((cond t d c).blocks ≡ c.blocks) × ((cond t d c).empty_blocks ≡ c.empty_blocks)
    go true d e k = (e, k)
    go false d e k = (refl, refl)

finish_counters : (c : Pipeline) (a b : List ℕ) → ((finish_call c a b).chain.blocks ≡ c.blocks) × ((finish_call c a b).chain.empty_blocks ≡ c.empty_blocks)
unfolding finish_call finished
finish_counters c a b = go (finish_verdict c (shorter a b))
  where
    go : (w : Verdict) → ((finish_concluded w c (record { a = a; b = b })).chain.blocks ≡ c.blocks) × ((finish_concluded w c (record { a = a; b = b })).chain.empty_blocks ≡ c.empty_blocks)
    go (Ok _) = reset_counters c
    go (Err e) = (refl, refl)

nothing_call : (r : Run) (call : Call) (n : ℕ) → r.chain.empty_blocks ≡ held_count n → (after_call r call).chain.empty_blocks ≡ held_count (n + nothing_by r call)
unfolding block_call accepted
nothing_call r (block format t bytes a b) n e = go (block_verdict r.chain format (length bytes) (shorter a b))
  where
    by_length : (z : Bool) (m : ℕ) (x : Answer ℕ) → one_if_nothing (Ok x) ≡ 0
        → cond z (counted_up r.chain.empty_blocks) r.chain.empty_blocks ≡ held_count (n + one_if_nothing (Ok (cond z (answer.NothingYet m) x)))
    by_length true m x h = ap counted_up e ∙ one_more n
    by_length false m x h = rw (h, add-zero) e

    go : (w : Verdict) → (concluded w r.chain t bytes (record { a = a; b = b })).chain.empty_blocks
        ≡ held_count (n + one_if_nothing (concluded w r.chain t bytes (record { a = a; b = b })).answer)
    go (Err x) = rw add-zero e
    go (Ok _) = by_length (eqb (output_bytes r.chain bytes) 0) _ _ refl
nothing_call r reset n e = rw add-zero ((reset_counters r.chain).1 ∙ e)
nothing_call r (finish a b) n e = (finish_counters r.chain a b).1 ∙ e ∙ ap held_count (sym (add-zero n))

-- what a call leaves of the chain depends on the chain alone
chain_after : (r q : Run) (call : Call) → r.chain ≡ q.chain → (after_call r call).chain ≡ (after_call q call).chain
chain_after r q (block format t bytes a b) e = ap (λ (c : Pipeline). (block_call c format t bytes a b).chain) e
chain_after r q reset e = ap reset_call e
chain_after r q (finish a b) e = ap (λ (c : Pipeline). (finish_call c a b).chain) e

pub nothing_calls : (o : Pipeline) (S : Stream) (r q : Run) (calls : List Call) (n : ℕ) → r.chain ≡ q.chain → q.chain.empty_blocks ≡ held_count n
    → (after_calls o S r calls).chain.empty_blocks ≡ held_count (n + nothing_from q calls)
nothing_calls o S r q [] n s e = rw (s, add-zero) e
nothing_calls o S r q (call ∷ calls) n s e =
    let m : n + nothing_by q call + nothing_from (after_call q call) calls ≡ n + nothing_from q (call ∷ calls) = omega arith in
    nothing_calls o (after_feeding o (fed S) call) (after_call (within S r) call) (after_call q call) calls (n + nothing_by q call) (chain_after (within S r) q call s) (nothing_call q call n e)
    ∙ ap held_count m

module _ (o : Pipeline) (opened : FreshlyOpened o) where
  counted_call : (X : List Frame) (r : Run) (call : Call) (n : ℕ) → Since o X r → r.chain.blocks ≡ held_count n → (after_call r call).chain.blocks ≡ held_count (n + accepted_by o X call)
  unfolding block_call accepted
  counted_call X r (block format t bytes a b) n v e = go (block_verdict r.chain format (length bytes) (shorter a b)) refl
    where
      go : (w : Verdict) → block_verdict r.chain format (length bytes) (shorter a b) ≡ w
          → (concluded (block_verdict r.chain format (length bytes) (shorter a b)) r.chain t bytes (record { a = a; b = b })).chain.blocks
          ≡ held_count (n + one_if_accepted (plain_verdict o.format (kinds_in o) X format bytes (shorter a b)))
      go (Err x) h = rw (← verdict_plain o opened v format bytes a b, h, add-zero) e
      go (Ok _) h = rw (← verdict_plain o opened v format bytes a b, h) (ap counted_up e ∙ one_more n)
  counted_call X r reset n v e = rw add-zero ((reset_counters r.chain).0 ∙ e)
  counted_call X r (finish a b) n v e = rw add-zero ((finish_counters r.chain a b).0 ∙ e)

  pub counted_calls : (S : Stream) (r : Run) (calls : List Call) (n : ℕ) → Stands o opened S r → All Lent calls → r.chain.blocks ≡ held_count n
      → (after_calls o S r calls).chain.blocks ≡ held_count (n + accepted_from o S calls)
  counted_calls S r [] n v lent e = rw add-zero e
  counted_calls S r (call ∷ calls) n v lent e =
      let m : n + accepted_by o (fed S) call + accepted_from o (after_feeding o (fed S) call) calls ≡ n + accepted_from o S (call ∷ calls) = omega arith in
      let w : Since o (fed S) (within S r) = stands_within o opened S r v in
      counted_calls (after_feeding o (fed S) call) (after_call (within S r) call) calls (n + accepted_by o (fed S) call) (after_call_lem o opened (fed S) (within S r) call w lent.0) lent.1
      (counted_call (fed S) (within S r) call n w e)
      ∙ ap held_count m

-- ---- any calls on a chain that opening returned
as_opened : (f : PcmFormat) (ss : List Stage) → ((chain_of f ss).blocks ≡ 0) × ((chain_of f ss).empty_blocks ≡ 0)
unfolding chain_of
as_opened f ss = (refl, refl)

opened_counters : (f : PcmFormat) (s : Stages) (o : Pipeline) → opened_of f s ≡ Ok o → (o.blocks ≡ 0) × (o.empty_blocks ≡ 0)
opened_counters f (opened ss) o h = let k : chain_of f ss ≡ o = cc in rw (← k) (as_opened f ss)
opened_counters f (refused e) o h = (cc, cc)

pub open_counters : (f : PcmFormat) (recipe : List ℕ) (o : Pipeline) → open_call f recipe ≡ Ok o → (o.blocks ≡ 0) × (o.empty_blocks ≡ 0)
unfolding open_call
open_counters f recipe o h = opened_counters f (asked (ask (format_allowed f) InvalidFormat (Ok tt)) (open_stages 8 f recipe)) o h

-- From the verdict and the end of the walk that plays to the block call's result. Assumes nothing.
use Rattle.pcm.specs.Refusals.{Verdict}
use Rattle.std.specs.Prelude.{◌≡◌, false, List, ◌++◌, ℕ, zero, suc, length, drop, Ok, Err, Result}
use Rattle.std.proofs.Math.Path.{refl, sym, ap₂}
use Rattle.std.proofs.Common.{ap, ◌∙◌, suc-ne-zero}
use Rattle.pcm.specs.declared.PcmFormat.{PcmFormat}
use Rattle.pcm.specs.declared.Error.{Error}
use Rattle.pcm.specs.declared.Error.TheVariants.{InvalidFormat}
use Rattle.pcm.specs.Samples.{Bytes}
use Rattle.pcm.specs.Frames.{frames_of, bytes_of}
use Rattle.stage.specs.declared.Stage.{Stage}
use Rattle.pipeline.specs.declared.Pipeline.{Pipeline}
use Rattle.answers.specs.declared.Half.{Half}
use Rattle.answers.specs.declared.Answer.{Answer}
use Rattle.block.specs.Chain.{chain_out, chain_next}
use Rattle.pipeline.specs.Reset.{format_leaving}
use Rattle.turns.specs.Turns.{Halves, halves}
use Rattle.block.specs.BlockCall.{block_verdict, halves_after, shorter, counted_chain, block_clipped, accepted, concluded, block_call}
use Rattle.answers.specs.Answers.{counted_up, output_answer, last_half, unstaged, counted_if}
use Rattle.pipeline.specs.WritingBack.{stages_of}
use Rattle.questions.specs.Walk.{head_legal}
use Rattle.block.specs.Turns.{Accepts}
use Rattle.block.specs.laws.Turns.{Ended}
use Rattle.chains.specs.Chains.{with_stages}
use Rattle.block.specs.laws.Stages.{halves_end}
use Rattle.block.specs.laws.Walking.{head_illegal}

-- ---- refusals
pub head_refused : (c : Pipeline) (format : PcmFormat) (size short : ℕ) → head_legal c.format c.count ≡ false → block_verdict c format size short ≡ Err InvalidFormat
unfolding block_verdict
head_refused c format size short h = rw (head_illegal c h)

module _ (c : Pipeline) (format : PcmFormat) (t : ℕ) (block a b : List ℕ) where
  pub refused_is : (e : Error) (chain : Pipeline) (answer : Result (Answer ℕ) Error) → chain ≡ c → answer ≡ Err e → block_verdict c format (length block) (shorter a b) ≡ Err e
      → record { chain = chain; answer = answer; a = a; b = b } ≡ block_call c format t block a b
  unfolding block_call
  refused_is e chain answer p q h =
      ap₂ (λ (x : Pipeline) (y : Result (Answer ℕ) Error). record { chain = x; answer = y; a = a; b = b }) p q
      ∙ sym (ap (λ (v : Verdict). concluded v c t block (record { a = a; b = b })) h)

  pub accepted_call : block_verdict c format (length block) (shorter a b) ≡ Ok tt → accepted c t block (halves a b) ≡ block_call c format t block a b
  unfolding block_call
  accepted_call h = sym (ap (λ (v : Verdict). concluded v c t block (record { a = a; b = b })) h)

  -- ---- an accepted block
  same_answer : (f g : PcmFormat) (half : Half) (len clipped : ℕ) → ((len ≡ 0 → ⊥) → f ≡ g) → output_answer f t half len clipped ≡ output_answer g t half len clipped
  same_answer f g half zero clipped h = refl
  same_answer f g half (suc n) clipped h = ap (λ (k : PcmFormat). output_answer k t half (suc n) clipped) (h (suc-ne-zero n))

  abbrev next : List Stage
  next = chain_next (stages_of c) (frames_of c.format.channels block) ++ drop c.count c.stages

  abbrev leaving : PcmFormat
  leaving = format_leaving c.format (stages_of c)

  abbrev size : ℕ
  size = length (bytes_of (chain_out (stages_of c) (frames_of c.format.channels block)))

  accepted_is : record {
    chain = counted_chain c next size;
    answer = Ok (output_answer leaving t (last_half c.count) size (block_clipped c block));
    a = (halves_after (stages_of c) (frames_of c.format.channels block) block (halves a b)).a;
    b = (halves_after (stages_of c) (frames_of c.format.channels block) block (halves a b)).b;
  } ≡ accepted c t block (halves a b)
  unfolding accepted
  accepted_is = refl

  module _ (w : Accepts c block a b) (eight : length c.stages ≡ 8) (bytes : Bytes block) (a₀ : List ℕ) (u : a₀ ≡ unstaged c.count block a)
      (s : List Stage) (f : PcmFormat) (len : ℕ) (h : Halves) (e : Ended c.stages c.count c.format block (halves a₀ b) s f len h)
      (clipped : ℕ) (held : clipped ≡ block_clipped c block) where
    played : record { chain = counted_chain c s len; answer = Ok (output_answer f t (last_half c.count) len clipped); a = h.a; b = h.b } ≡ accepted c t block (halves a b)
    played =
        ap (λ (r : Answer ℕ). record { chain = counted_chain c s len; answer = Ok r; a = h.a; b = h.b }) (same_answer f leaving (last_half c.count) len clipped e.form ∙ ap (output_answer leaving t (last_half c.count) len) held)
        ∙ ap₂ (λ (l : List Stage) (n : ℕ). record { chain = counted_chain c l n; answer = Ok (output_answer leaving t (last_half c.count) n (block_clipped c block)); a = h.a; b = h.b }) e.keeps e.size
        ∙ ap (λ (g : Halves). record { chain = counted_chain c next size; answer = Ok (output_answer leaving t (last_half c.count) size (block_clipped c block)); a = g.a; b = g.b }) (e.halves_are ∙ halves_end c block a b w eight bytes a₀ u)
        ∙ accepted_is

    pub concludes_accepted : (chain : Pipeline) → chain ≡ with_stages c s → (blocks empties : ℕ) (answer : Answer ℕ) → blocks ≡ counted_up chain.blocks → empties ≡ counted_if len chain.empty_blocks
        → answer ≡ output_answer f t (last_half c.count) len clipped
        → record { chain = record { stages = chain.stages; count = chain.count; format = chain.format; blocks = blocks; empty_blocks = empties }; answer = Ok answer; a = h.a; b = h.b } ≡ accepted c t block (halves a b)
    unfolding with_stages
    concludes_accepted chain m blocks empties answer p q r =
        ap₂ (λ (x y : ℕ). record { chain = record { stages = chain.stages; count = chain.count; format = chain.format; blocks = x; empty_blocks = y }; answer = Ok answer; a = h.a; b = h.b }) p q
        ∙ ap₂ (λ (d : Pipeline) (y : Answer ℕ). record { chain = record { stages = d.stages; count = d.count; format = d.format; blocks = counted_up d.blocks; empty_blocks = counted_if len d.empty_blocks }; answer = Ok y; a = h.a; b = h.b }) m r
        ∙ played

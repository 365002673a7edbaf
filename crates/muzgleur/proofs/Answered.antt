-- What the calls answer to too few words, and the words that their answers leave. Assumes nothing.
use Rattle.std.specs.Prelude.{◌≡◌, refl, false, List, ℕ, ◌<◌, length, Ok, Err, Result, OnOk, OnErr}
use Rattle.std.proofs.Common.{sym, ap, ◌∙◌, arith}
use Rattle.pcm.specs.declared.Error.{Error}
use Rattle.pcm.specs.declared.Error.TheVariants.{InvalidFormat}
use Rattle.pcm.specs.declared.PcmFormat.{PcmFormat}
use Rattle.pipeline.specs.declared.Pipeline.{Pipeline}
use Rattle.pipeline.specs.Reset.{reset_call}
use Rattle.questions.specs.Walk.{head_legal}
use Rattle.answers.specs.declared.Told.{Told}
use Rattle.answers.specs.declared.FinishTold.{FinishTold}
use Rattle.answers.specs.declared.Answer.{Answer}
use Rattle.answers.specs.declared.Answer.TheVariants as answer
use Rattle.answers.specs.Answers.{answer_told}
use Rattle.answers.specs.FinishAnswers.{finish_told}
use Rattle.block.specs.BlockCall.{legal, block_call, shorter, scratch_bytes}
use Rattle.block.specs.laws.Concluding.{head_refused, refused_is}
use Rattle.block.specs.laws.Walking.{head_illegal, scratch_refused}
use Rattle.finish.specs.FinishCall.{finish_verdict, finish_call}
use Rattle.room.specs.Room.{block_room, finish_room}
use Rattle.room.specs.laws.Asked.{block_room_refused, finish_room_refused}
use Rattle.chain_words.specs.Layout.{no_chain, chain_of_words}
use Rattle.chain_words.specs.laws.Chains.{too_few, too_few_stand}
use Rattle.chains.specs.Words.{reset_outcome}
use Rattle.muzgleur.specs.Results.{BlockOutcome, block_outcome, finish_outcome, finish_words}

none_cleared : reset_call no_chain ≡ no_chain
unfolding reset_call
none_cleared = refl

-- ---- too few words
module _ (w : List ℕ) (few : length w < 152) where
  none_at : chain_of_words w ≡ no_chain
  none_at = too_few w few

  unlawful : legal (chain_of_words w) ≡ false
  unlawful = ap legal none_at ∙ head_illegal no_chain refl

  unheaded : head_legal (chain_of_words w).format (chain_of_words w).count ≡ false
  unheaded = ap (λ (c : Pipeline). head_legal c.format c.count) none_at

  pub few_block : (format : PcmFormat) (t : ℕ) (block a b : List ℕ) (told : Told) → told ≡ answer_told (Err InvalidFormat)
      → record { result = told; chain = chain_of_words w; a = a; b = b } ≡ block_outcome (block_call (chain_of_words w) format t block a b)
  few_block format t block a b told e =
      ap (λ (x : Told). let o : BlockOutcome = record { result = x; chain = chain_of_words w; a = a; b = b } in o) e
      ∙ ap block_outcome (refused_is (chain_of_words w) format t block a b InvalidFormat _ _ refl refl (head_refused (chain_of_words w) format (length block) (shorter a b) unheaded))

  pub few_finish : (a b : List ℕ) (told : FinishTold) → told ≡ finish_told (Err InvalidFormat)
      → record { result = told; chain = chain_of_words w; a = a; b = b } ≡ finish_outcome (finish_call (chain_of_words w) a b)
  unfolding finish_call finish_verdict
  few_finish a b told e = rw (e, unlawful)

  pub few_scratch : (size : ℕ) → Err InvalidFormat ≡ scratch_bytes (chain_of_words w) size
  few_scratch size = scratch_refused (chain_of_words w) size unheaded

  pub few_block_room : (n : ℕ) → Err InvalidFormat ≡ block_room (chain_of_words w) n
  few_block_room n = block_room_refused (chain_of_words w) unlawful n

  pub few_finish_room : Err InvalidFormat ≡ finish_room (chain_of_words w)
  few_finish_room = finish_room_refused (chain_of_words w) unlawful

  pub few_reset : record { number = 1; words = w } ≡ reset_outcome w
  few_reset = rw (too_few_stand w few)

  pub few_stays : chain_of_words w ≡ reset_call (chain_of_words w)
  few_stays = rw none_at (sym none_cleared)

-- ---- what an answer says of the words
pub if_refused : (r : Result (Answer ℕ) Error) (P : Type 0) → OnErr r P → (answer_told r).outcome ≡ 0 → P
if_refused (Ok (answer.Output f timestamp side len clipped)) P h z = absurd (let b : ⊥ = omega arith in b)
if_refused (Ok (answer.NothingYet clipped)) P h z = absurd (let b : ⊥ = omega arith in b)
if_refused (Err e) P h z = h

-- by the two answers
pub by_answer : {A E : Type 0} (r : Result A E) (Y N P : Type 0) → OnOk r Y → OnErr r N → (Y → P) → (N → P) → P
by_answer (Ok x) Y N P y n f g = f y
by_answer (Err e) Y N P y n f g = g n

pub finish_left : (r : Result (Answer (Unit {0})) Error) (w left : List ℕ) (Y N : Type 0) → OnOk r Y → OnErr r N → (Y → left ≡ finish_words 1 w) → (N → left ≡ w) → left ≡ finish_words (finish_told r).outcome w
finish_left (Ok (answer.Output f timestamp side len clipped)) w left Y N y n g h = g y
finish_left (Ok (answer.NothingYet clipped)) w left Y N y n g h = g y
finish_left (Err e) w left Y N y n g h = h n

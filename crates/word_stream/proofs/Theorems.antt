-- What the definitions come to: the chief theorems of this crate. Assumes nothing.
use Rattle.std.specs.Prelude.{◌≡◌, List, [], ℕ, ◌≤◌, ◌<◌, Ok}
use Rattle.std.proofs.Common.{sym, ap, ◌∙◌, subst}
use Rattle.pcm.specs.declared.PcmFormat.{PcmFormat}
use Rattle.pcm.specs.Samples.{All}
use Rattle.pipeline.specs.declared.Pipeline.{Pipeline}
use Rattle.pipeline.specs.Opening.{open_call}
use Rattle.room.specs.Beforehand.{BlockBeforehand, FinishBeforehand}
use Rattle.stream.specs.Calls.{Call, Lent, Run, fresh}
use Rattle.stream.specs.Stream.{running, after_calls, stream_of, run_of}
use Rattle.stream.specs.WholeStream.{WholeStream}
use Rattle.stream.proofs.Theorems.{whole_stream, block_still_beforehand, finish_still_beforehand}
use Rattle.chain_words.specs.Layout.{chain_of_words}
use Rattle.word_stream.specs.OnWords.{WordRun, run_on_words, OnWords}
use Rattle.word_stream.proofs.laws.OnWords.{words_as_run}

-- whatever the format and the recipe that opening accepts, the calls, and the blocks and halves that they bring: `start` is what
-- muzgleur_open promises of the words
pub whole_stream_on_words : (f : PcmFormat) (recipe : List ℕ) (o : Pipeline) → open_call f recipe ≡ Ok o → (w : List ℕ) → chain_of_words w ≡ o
    → (calls : List Call) → All Lent calls → (r : WordRun) → OnWords o (running []) (record { words = w; joined = []; clipped = 0 }) calls r
    → WholeStream o (stream_of o calls) (run_on_words r)
whole_stream_on_words f recipe o h w start calls lent r on =
    subst (WholeStream o (stream_of o calls))
    (ap (λ (c : Pipeline). after_calls o (running []) (fresh c) calls) (sym start) ∙ words_as_run on)
    (whole_stream f recipe o h calls lent)

-- document 02, Q-5: what muzgleur_block_room and muzgleur_finish_room answer after such calls is what the next call then does
module _ (f : PcmFormat) (recipe : List ℕ) (o : Pipeline) (h : open_call f recipe ≡ Ok o) (w : List ℕ) (start : chain_of_words w ≡ o) (calls : List Call) (lent : All Lent calls)
    (r : WordRun) (on : OnWords o (running []) (record { words = w; joined = []; clipped = 0 }) calls r) where
  chain_is : (run_of o calls).chain ≡ chain_of_words r.words
  chain_is = ap (λ (x : Run). x.chain) (ap (λ (c : Pipeline). after_calls o (running []) (fresh c) calls) (sym start) ∙ words_as_run on)

  pub block_beforehand_on_words : (n : ℕ) → 0 < n → n ≤ 8192 → BlockBeforehand (chain_of_words r.words) n
  block_beforehand_on_words n some most = subst (λ (c : Pipeline). BlockBeforehand c n) chain_is (block_still_beforehand f recipe o h calls lent n some most)

  pub finish_beforehand_on_words : FinishBeforehand (chain_of_words r.words)
  finish_beforehand_on_words = subst FinishBeforehand chain_is (finish_still_beforehand f recipe o h calls lent)

-- `muzgleur::muzgleur_open` meets its contract. Assumes nothing.
use Rattle.std.proofs.Common.{◌≡◌, ◌++◌, drop, List, ℕ, length, refl, sym, ap, ◌∙◌, arith, Ok}
use Rattle.pcm.specs.declared.PcmFormat.{PcmFormat}
use Rattle.pcm.specs.Frames.{written}
use Rattle.chain_words.specs.Layout.{words_of, chain_of_words}
use Rattle.pipeline.specs.Opening.{open_call}
use Rattle.muzgleur.proofs.Cut.{left_written, unchanged}
use Rattle.muzgleur.proofs.Opened.{open_long, open_stands, open_accepted, open_refused}
use Rattle.muzgleur.proofs.muzgleur_open.Goals as goal

opens : (c : goal.After-slice_known-in-Ok-1) → open_call (record { rate = c.args.rate; channels = c.args.channels }) c.args.recipe.now ≡ Ok c.in-Ok.made
opens c = sym c.open.ensures ∙ c.in-Ok.is

left : (c : goal.After-slice_known-in-Ok-1) → c.put_chain.new.w ++ drop 152 c.args.chain.now ≡ written (words_of c.in-Ok.made) c.args.chain.now
left c =
    let n : length (words_of c.in-Ok.made) ≡ 152 = open_long _ c.ranges.channels.fits c.args.recipe.now c.in-Ok.made (opens c) in
    ap (λ (l : List ℕ). l ++ drop 152 c.args.chain.now) c.put_chain.ensures.0 ∙ left_written _ _ c.in-Some.ensures.cases (words_of c.in-Ok.made) (omega (arith, n))

pub returns-in-Ok-clause-all : goal.returns-in-Ok-clause-all
returns-in-Ok-clause-all c = open_accepted c.args.chain.now c.in-Some.ensures.cases.enough _ _ _ c.in-Ok.made (opens c) refl (left c)

pub returns-in-Ok-clause-chain : goal.returns-in-Ok-clause-chain
returns-in-Ok-clause-chain c z =
    let f : PcmFormat = record { rate = c.args.rate; channels = c.args.channels } in
    opens c
    ∙ ap Ok (sym (ap chain_of_words (left c) ∙ open_stands f c.ranges.channels.fits c.args.recipe.now c.args.chain.now c.in-Ok.made (opens c) c.put_chain.ensures.1))

pub returns-in-Err-clause-all : goal.returns-in-Err-clause-all
returns-in-Err-clause-all c = open_refused c.args.chain.now c.in-Some.ensures.cases.enough _ _ _ c.in-Err.e (sym c.open.ensures ∙ c.in-Err.is) c.number.ensures (unchanged _ _ c.in-Some.ensures.cases _ refl)

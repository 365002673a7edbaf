use Rattle.std.proofs.Common.{◌≡◌, sym, ap, ◌∙◌, subst, arith, ◌≤◌}
use Rattle.pcm.specs.Samples.{All}
use Rattle.pipeline.specs.declared.Pipeline.{Pipeline}
use Rattle.pipeline.specs.Reset.{reset_call}
use Rattle.pipeline.specs.WritingBack.{stages_of}
use Rattle.stage_words.specs.Storable.{HeldMemory, Small}
use Rattle.chain_words.specs.Kept.{sound_words}
use Rattle.chain_words.specs.Layout.{chain_of_words}
use Rattle.chain_words.specs.laws.Chains.{few_stands}
use Rattle.chains.proofs.Cleared.{reset_few, reset_stands}
use Rattle.chains.proofs.WordsChain.clear.Goals as goal

pub put_sound-requires : goal.put_sound-requires
put_sound-requires c =
    let q : c.reset-cleared.result ≡ reset_call (chain_of_words c.args.self.now) = c.reset-cleared.ensures ∙ ap reset_call c.chain_of-own.ensures.0 in
    (subst (λ (x : Pipeline). x.count ≤ 8) (sym q) (reset_few c.args.self.now (few_stands _ c.requires)), omega arith)

pub returns-clause-is : goal.returns-clause-is
returns-clause-is c =
    let w = c.args.self.now in
    let q : c.reset-cleared.result ≡ reset_call (chain_of_words w) = c.reset-cleared.ensures ∙ ap reset_call c.chain_of-own.ensures.0 in
    let small : All Small (chain_of_words w).stages = subst (λ (x : Pipeline). All Small x.stages) c.chain_of-own.ensures.0 c.chain_of-own.ensures.1 in
    ap chain_of_words (c.put_sound.ensures.0 ∙ ap (sound_words w) q) ∙ reset_stands w small (few_stands _ c.requires) (subst (λ (x : Pipeline). All HeldMemory (stages_of x)) q c.put_sound.ensures.1)

pub returns-clause-rest : goal.returns-clause-rest
returns-clause-rest c = c.put_sound.ensures.0 ∙ ap (sound_words c.args.self.now) (c.reset-cleared.ensures ∙ ap reset_call c.chain_of-own.ensures.0)

use Rattle.std.proofs.Common.{rules}
use Rattle.chains.proofs.Words.{counts_stay, counts_chain}
use Rattle.chains.proofs.WordsChain.count_block.Goals as goal

pub returns-clause-is : goal.returns-clause-is
returns-clause-is c = counts_chain c.args.self.now c.requires c.args.len _ (search rules)

pub returns-clause-rest : goal.returns-clause-rest
returns-clause-rest c = counts_stay c.args.self.now c.requires c.args.len _ (search rules)

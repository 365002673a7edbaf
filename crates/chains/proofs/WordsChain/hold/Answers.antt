use Rattle.chains.proofs.Words.{held_stays, held_chain}
use Rattle.chains.proofs.WordsChain.hold.Goals as goal

pub returns-clause-is : goal.returns-clause-is
returns-clause-is c = held_chain _ _ c.requires.used _ c.requires.follows c.fits-self _ c.put_held_at.ensures.0 c.put_held_at.ensures.1

pub returns-clause-rest : goal.returns-clause-rest
returns-clause-rest c = held_stays _ _ c.requires.used _ c.requires.follows c.fits-self _ c.put_held_at.ensures.0 c.put_held_at.ensures.1

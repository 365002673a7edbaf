-- The room is enough, so the page is written whole, and stands at the front.
use Rattle.std.proofs.Common.{rules, ◌≡◌, length}
use Rattle.note_lines.specs.Page.{page_of}
use Rattle.notes.proofs.Whole.{answered, front, counted}
use Rattle.notes.proofs.fill_page.Goals as goal

-- so many bytes
all_bytes : (c : goal.After-unwrap_or) → c.unwrap_or.result ≡ length (page_of c.args.rate.now c.args.channels.now c.args.recipe.now)
all_bytes c =
    let e = answered _ _ _ _ _ _ c.page.ensures.all c.requires.0 c.requires.1 in
    rw e at c.unwrap_or.ensures

pub returns-clause-count : goal.returns-clause-count
returns-clause-count c = rw (all_bytes c) (counted _ _ _ _ _ _ c.page.ensures.all c.requires.0 c.requires.1)

pub returns-clause-page : goal.returns-clause-page
returns-clause-page c = rw (all_bytes c) (front _ _ _ _ _ _ c.page.ensures.all c.requires.0 c.requires.1)

use Rattle.listing.proofs.Exactly.{searches_are_exact}
use Rattle.listing.proofs.listing.list.Goals as goal

pub returns-clause-searches : goal.returns-clause-searches
returns-clause-searches c = searches_are_exact

pub returns-in_default-clause-searches : goal.returns-in_default-clause-searches
returns-in_default-clause-searches c = searches_are_exact

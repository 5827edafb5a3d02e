use Rattle.realm.proofs.PublishedUnderItsWord.{drawn}
use Rattle.realm.proofs.laws.published_under_its_word.Goals as goal

pub returns : goal.returns
returns c = drawn

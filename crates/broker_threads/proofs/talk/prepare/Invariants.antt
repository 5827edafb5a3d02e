use Rattle.realm_inbox.specs.EndViews.{home_of_poster}
use Rattle.broker_threads.proofs.talk.prepare.Given as goal

abbrev pub ghost-joining : goal.ghost-joining
ghost-joining g a = home_of_poster a.poster.now

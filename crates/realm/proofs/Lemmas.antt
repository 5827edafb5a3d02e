-- The lemmas of this crate that other crates cite, passed on from one place. Declares nothing.
pub use Rattle.realm.proofs.Conditionals.{clash, none-since, not-some, some-before, taken-away}
pub use Rattle.realm.proofs.DueEvents.{due, given}
pub use Rattle.realm.proofs.EventLists.{items_for-append}
pub use Rattle.realm.proofs.EventsAreAdmitted.{admitted}
pub use Rattle.realm.proofs.EventsFollowSubscribed.{events-follow, events-while}
pub use Rattle.realm.proofs.GivenOnce.{alike, given-once}
pub use Rattle.realm.proofs.LiveSessions.{live-elsewhere, live-joined}
pub use Rattle.realm.proofs.NothingAfterAnEnding.{no_events, no_more}
pub use Rattle.realm.proofs.OwedOnlyGrows.{owed-Begins}
pub use Rattle.realm.proofs.PostedOrder.{joins-before, order-accepted, order-begun, order-cut, order-dropped, order-lost, order-lost-cut, said-kept, some-more}
pub use Rattle.realm.proofs.PublisherOrder.{in-order}

use Rattle.std.proofs.Common.{[], append-nil, inl, refl, sym}
use Rattle.rawsocket.proofs.Lemmas.{no_whole_steps}
use Rattle.realm_inbox.proofs.PosterLemmas.{with_none}
use Rattle.connection.proofs.WeightsCounted.{counts_none}
use Rattle.connection.proofs.reader.read_up_to.Goals as goal

pub returns-in_default-clause-posted : goal.returns-in_default-clause-posted
returns-in_default-clause-posted g c =
    let given = (g.I.Source.seen c.args.source.now).given in
    let posted = g.P.Posting.posted c.args.poster.now in
    record { octets = []; acts = []; read = sym (append-nil given); posted = sym (with_none posted); holds = inl refl }

pub returns-in_default-clause-reads : goal.returns-in_default-clause-reads
returns-in_default-clause-reads g c = no_whole_steps _

pub returns-in_default-clause-counts : goal.returns-in_default-clause-counts
returns-in_default-clause-counts g c = counts_none c.args.opened.serializer (g.P.Posting.posted c.args.poster.now) (g.P.Posting.posted c.args.poster.now) (g.P.Posting.weights c.args.poster.now) (g.P.Posting.weights c.args.poster.now) refl refl

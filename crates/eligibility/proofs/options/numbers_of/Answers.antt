use Rattle.eligibility.proofs.Standing.{list-spelled}
use Rattle.eligibility.proofs.options.numbers_of.Goals as goal

pub of-requires : goal.of-requires
of-requires c = list-spelled c.spelling.result.room c.spelling.result.octets.now c.in-Some.value c.in-List.items c.in-List.ensures c.spelling.ensures.room c.spelling.ensures.spelled

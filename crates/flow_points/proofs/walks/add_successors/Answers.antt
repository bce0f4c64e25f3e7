use Rattle.std.proofs.Common.{refl}
use Rattle.flow_points.proofs.Lists.{alone, first, second}
use Rattle.flow_points.proofs.Reaching.{one_there, reached_by, two_there}
use Rattle.flow_points.proofs.walks.add_successors.Goals as goal

pub add-requires-clause-reached : goal.add-requires-clause-reached
add-requires-clause-reached c = reached_by _ _ _ _ _ _ c.requires.reached c.requires.flow c.in-Next.is (alone _)

pub add-requires-in-Jump-clause-reached : goal.add-requires-in-Jump-clause-reached
add-requires-in-Jump-clause-reached c = reached_by _ _ _ _ _ _ c.requires.reached c.requires.flow c.in-Jump.is (alone _)

pub add-requires-in-Branch-clause-reached : goal.add-requires-in-Branch-clause-reached
add-requires-in-Branch-clause-reached c = reached_by _ _ _ _ _ _ c.requires.reached c.requires.flow c.in-Branch.is (first _ _)

pub add-requires-in-Branch-2-clause-reached : goal.add-requires-in-Branch-2-clause-reached
add-requires-in-Branch-2-clause-reached c = reached_by _ _ _ _ _ _ c.requires.reached c.requires.flow c.in-Branch.is (second _ _)

pub add-requires-in-Call-clause-reached : goal.add-requires-in-Call-clause-reached
add-requires-in-Call-clause-reached c = reached_by _ _ _ _ _ _ c.requires.reached c.requires.flow c.in-Call.is (first _ _)

pub add-requires-in-Call-2-clause-reached : goal.add-requires-in-Call-2-clause-reached
add-requires-in-Call-2-clause-reached c = reached_by _ _ _ _ _ _ c.requires.reached c.requires.flow c.in-Call.is (second _ _)

pub returns-in-Jump-clause-there : goal.returns-in-Jump-clause-there
returns-in-Jump-clause-there c = one_there _ _ _ _ _ _ c.in-Jump.is refl c.add-in-Jump.ensures.there

pub returns-in_ok-add-in-Branch-clause-there : goal.returns-in_ok-add-in-Branch-clause-there
returns-in_ok-add-in-Branch-clause-there c =
    two_there _ _ _ _ _ _ _ _ _ _ c.in-Branch.is refl c.in_ok-add-in-Branch.ensures.there c.add-in-Branch-2.ensures.adds c.add-in-Branch-2.ensures.there

pub returns-in_ok-add-in-Call-clause-there : goal.returns-in_ok-add-in-Call-clause-there
returns-in_ok-add-in-Call-clause-there c =
    two_there _ _ _ _ _ _ _ _ _ _ c.in-Call.is refl c.in_ok-add-in-Call.ensures.there c.add-in-Call-2.ensures.adds c.add-in-Call-2.ensures.there

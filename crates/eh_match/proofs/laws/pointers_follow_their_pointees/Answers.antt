use Rattle.eh_match.proofs.Others.{qualifiers_are_kept, promises_are_kept, pointers_follow_their_pointees, unread_pointers_are_named}
use Rattle.eh_match.proofs.laws.pointers_follow_their_pointees.Goals as goal

pub returns-clause-qualifiers : goal.returns-clause-qualifiers
returns-clause-qualifiers c = qualifiers_are_kept

pub returns-clause-promises : goal.returns-clause-promises
returns-clause-promises c = promises_are_kept

pub returns-clause-pointees : goal.returns-clause-pointees
returns-clause-pointees c = pointers_follow_their_pointees

pub returns-clause-unread : goal.returns-clause-unread
returns-clause-unread c = unread_pointers_are_named

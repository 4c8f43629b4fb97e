-- What the GNU C++ personality routine finds at an offset of a function ("Exception handling tables" of the GNU toolchain, the search
-- of `__gxx_personality_v0`; docs/rules/gnu-tables.md).
use Rattle.std.specs.Prelude.{ℕ, ◌+◌, ◌%◌, ◌^◌, ◌==◌, ◌&&◌, nat_le, nat_lt, Bool, true, false, if◌then◌else◌, List, [], ◌∷◌, Option, Some, None, unwrap_or, Result, Ok, Err}
use Rattle.eh_match.specs.declared.rules.Match.{Match}
use Rattle.eh_match.specs.declared.rules.Match.TheVariants.{Failed, Object, PointerToBase, Unreadable}
use Rattle.eh_phase.specs.Firsts.{first_some}
use Rattle.eh_phase.specs.Verdict.{Meeting}
use Rattle.gnu_lsda.specs.declared.actions.CatchFilter.{CatchFilter}
use Rattle.gnu_lsda.specs.declared.actions.CatchFilter.TheVariants as caught
use Rattle.gnu_lsda.specs.declared.actions.Action.{Action}
use Rattle.gnu_lsda.specs.declared.actions.Action.TheVariants as acts
use Rattle.gnu_lsda.specs.declared.actions.ActionFault.{ActionFault}
use Rattle.gnu_lsda.specs.declared.records.Record.{Record}
use Rattle.gnu_lsda.specs.declared.records.RecordFault.{RecordFault}
use Rattle.gnu_lsda.specs.Heads.{Area}
use Rattle.gnu_lsda.specs.Sites.{records_of}
use Rattle.gnu_lsda.specs.Chains.{actions_of}
use Rattle.gnu_descriptors.specs.Scopes.{pad_of, is_cleaning}

-- no record covers the offset: the program ends, as at a specification that the throw violates; or nothing is found and the throw goes on
-- outside; or a filter catches it; or a word of the object, which the match with a type needs, can't be loaded
pub data GnuVerdict : Type 0 where
  Violated : GnuVerdict
  Passed : GnuVerdict
  CaughtBy : (filter : ℕ) (hit : Match) → GnuVerdict
  CantRead : (address : ℕ) → GnuVerdict

-- ---- the record that decides

abbrev pub is_record_at : ℕ → Record → Bool
is_record_at o site = nat_le site.start o && nat_lt o (site.start + site.size)

abbrev pub record_at : ℕ → List (Result Record RecordFault) → Option Record
record_at o [] = None
record_at o (Ok site ∷ more) = if is_record_at o site then Some site else record_at o more
record_at o (Err fault ∷ more) = record_at o more

-- ---- its filters, in the order of the chain

abbrev pub by_match : ℕ → Match → Option GnuVerdict
by_match filter Failed = None
by_match filter (Object object) = Some (CaughtBy filter (Object object))
by_match filter (PointerToBase pointer) = Some (CaughtBy filter (PointerToBase pointer))
by_match filter (Unreadable address) = Some (CantRead address)

abbrev pub takes_says : Meeting → ℕ → CatchFilter → Option GnuVerdict
takes_says m filter caught.All = Some (CaughtBy filter (Object m.object))
takes_says m filter (caught.OfType type) = by_match filter (m.matched type)

abbrev pub action_says : Meeting → Action → Option GnuVerdict
action_says m (acts.Catch filter takes) = takes_says m (filter % 2 ^ 32) takes
action_says m acts.Cleanup = None
action_says m acts.NoTypes = None
action_says m acts.Specification = None

abbrev pub item_says : Meeting → Result Action ActionFault → Option GnuVerdict
item_says m (Ok action) = action_says m action
item_says m (Err fault) = None

abbrev pub chain_hit : Meeting → Area → ℕ → Option GnuVerdict
chain_hit m a action = first_some (item_says m) (actions_of a action)

abbrev pub record_says : Meeting → Area → Option Record → GnuVerdict
record_says m a None = Violated
record_says m a (Some site) = if site.pad == 0 then Passed else unwrap_or (chain_hit m a site.action) Passed

abbrev pub gnu_verdict : Meeting → Area → ℕ → GnuVerdict
gnu_verdict m a o = record_says m a (record_at o (records_of a))

-- ---- its cleanup, which runs where no filter catches

abbrev pub cleanups_by : Option GnuVerdict → Bool → ℕ → List ℕ
cleanups_by None true pad = pad ∷ []
cleanups_by None false pad = []
cleanups_by (Some verdict) is_cleaning pad = []

abbrev pub pads_of : ℕ → Meeting → Area → Option Record → List ℕ
pads_of start m a None = []
pads_of start m a (Some site) = if site.pad == 0 then [] else cleanups_by (chain_hit m a site.action) (is_cleaning a site.action) (pad_of start site)

abbrev pub gnu_cleanups : ℕ → Meeting → Area → ℕ → List ℕ
gnu_cleanups start m a o = pads_of start m a (record_at o (records_of a))

-- The rows of `hcase`, `race` and `case` before their bodies.
use Rattle.std.specs.Prelude.{ℕ, Bool, false, ◌&&◌, not, List, [], ◌∷◌, Option, Some, None, if◌then◌else◌, nat_le}
use Rattle.campl_tree.specs.declared.place.Place.{Place}
use Rattle.campl_tree.specs.declared.place.Ident.{Ident}
use Rattle.campl_tree.specs.Plain.SeqType.{SeqType}
use Rattle.campl_tree.specs.Plain.ChanType.{ChanType}
use Rattle.campl_tree.specs.Plain.Process as b
use Rattle.campl_tree.specs.Plain.Process.{Body, HcaseRows, Branches, CaseRows}
use Rattle.campl_types.specs.Names.{Name, same_name, is_among, found}
use Rattle.campl_types.specs.World.{World}
use Rattle.campl_types.specs.Polarity.{Choices, Deed, Gets, Splits, Offers, deed}
use Rattle.campl_types.specs.Held.{Channel, On}
use Rattle.campl_types.specs.Linear.{most_branches}
pub use Rattle.campl_types.specs.Linear.{row_names, branch_names}
use Rattle.campl_seqcheck.specs.Judged as seq
use Rattle.campl_seqcheck.specs.Judged.{Fine, fine, Judged, Is, Fails, and_then}
use Rattle.campl_seqcheck.specs.Fitting.{fit}
use Rattle.campl_linear.specs.Faults.{LinFault, WrongAction, CaseMissing, CaseTwice, RaceForm}
use Rattle.campl_linear.specs.Holding.{Holding}
use Rattle.campl_linear.specs.Channels.{held_at, Used}
use Rattle.campl_seqcheck.specs.declared.fault.SeqFault.{SeqFault}

-- `hcase`: each row is of a constructor of the channel's type (E42) that has no row before (E47), and then
-- each constructor has a row (E46)

abbrev pub row_type_so : Ident → Name → Used Choices → Option ChanType → Judged LinFault ChanType
row_type_so k x u None = Fails (WrongAction k.place x u.held_type u.side)
row_type_so k x u (Some y) = Is y

-- the type that remains in a row
abbrev pub row_type : Ident → Name → Used Choices → Judged LinFault ChanType
row_type k x u = row_type_so k x u (found k.name u.may)

abbrev pub first_row : Ident → List Name → Judged LinFault Fine
first_row k before = if is_among k.name before then Fails (CaseTwice k.place k.name) else Is fine

abbrev pub rows_offered : Name → Used Choices → (before : List Name) → HcaseRows → Judged LinFault Fine
rows_offered x u before b.no_hcase_rows = Is fine
rows_offered x u before (b.hcase_row_then k body rows) =
    and_then (row_type k x u) (λ _. and_then (first_row k before) (λ _. rows_offered x u (k.name ∷ before) rows))

abbrev pub each_has_row : Place → Choices → List Name → Judged LinFault Fine
each_has_row at [] names = Is fine
each_has_row at (c ∷ cs) names = if is_among c.0 names then each_has_row at cs names else Fails (CaseMissing at c.0)

-- and there is a row, as in each tree of a text
abbrev pub some_row : Place → Name → Used Choices → HcaseRows → Judged LinFault Fine
some_row at x u b.no_hcase_rows = Fails (WrongAction at x u.held_type u.side)
some_row at x u (b.hcase_row_then k body rows) = Is fine

-- `race`: 2 to 16 branches, each on a held channel (E40) at a receipt, which no branch before names, and the
-- branch begins with that receipt (E48)

abbrev pub is_between : (least n most : ℕ) → Bool
is_between least n most = nat_le least n && nat_le n most

abbrev pub branch_count : Place → ℕ → Judged LinFault Fine
branch_count at n = if is_between 2 n most_branches then Is fine else Fails (RaceForm at)

-- whether a body begins with the receipt that the channel is at
abbrev pub begins_with : Deed → Name → Body → Bool
begins_with (Gets t y) x (b.Then (b.Get at v channel) rest) = same_name x channel.name
begins_with (Splits t r) x (b.Then (b.Split at channel y z) rest) = same_name x channel.name
begins_with (Offers cs) x (b.Hcase at channel rows) = same_name x channel.name
begins_with _ x _ = false

abbrev pub deed_of : World → Channel → Deed
deed_of w (On s u) = deed w s u

abbrev pub begins : World → Ident → Body → (before : List Name) → Channel → Judged LinFault Fine
begins w x body before c = if not (is_among x.name before) && begins_with (deed_of w c) x.name body then Is fine else Fails (RaceForm x.place)

abbrev pub branches_begin : World → Holding → (before : List Name) → Branches → Judged LinFault Fine
branches_begin w held before b.no_branches = Is fine
branches_begin w held before (b.branch_then x body rows) =
    and_then (held_at x held) (λ c. and_then (begins w x body before c) (λ _. branches_begin w held (x.name ∷ before) rows))

-- `case`: the patterns of all rows fit the type
abbrev pub patterns_fit : World → CaseRows → SeqType → seq.Judged SeqFault Fine
patterns_fit w b.no_case_rows t = seq.Is fine
patterns_fit w (b.case_row_then p body rows) t = seq.and_then (fit w [] p t) (λ _. patterns_fit w rows t)

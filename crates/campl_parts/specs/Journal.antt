-- What contracts see of a journal, and how it keeps its entries.
use Rattle.std.specs.Prelude.{◌<◌, ℕ, List, [], ◌∷◌, Some, None, get_or, length, map, sum_by}
use Rattle.campl_value.specs.declared.message.Message.TheVariants as m
use Rattle.campl_parts.specs.declared.entry.Entry.{Entry}
use Rattle.campl_parts.specs.declared.entry.Kind.TheVariants as kind
use Rattle.campl_parts.specs.declared.journal.Brief.{Brief}
use Rattle.campl_parts.specs.declared.journal.Brief.TheVariants as b
use Rattle.campl_parts.specs.declared.journal.Stored.{Stored}
use Rattle.campl_parts.specs.declared.journal.Stored.TheVariants as s
use Rattle.campl_parts.specs.Entries.{simple}

-- the entries, the oldest first, for how many more there is room, and for how many that aren't told briefly
pub record Recorded : Type 0 where
  pub entries : List Entry
  pub spare : ℕ
  pub spare_full : ℕ

-- the steps that entries stand for
abbrev pub weight_of : List Entry → ℕ
weight_of entries = sum_by (λ e. e.weight) entries

-- the entry of a step that is told briefly
abbrev pub brief_entry : (process : ℕ) → Brief → Entry
brief_entry p (b.Put end value) = simple p kind.Put (Some end) (Some (m.Word value))
brief_entry p (b.Get end value) = simple p kind.Get (Some end) (Some (m.Word value))
brief_entry p (b.Pick end n) = simple p kind.Pick (Some end) (Some (m.Pick n))
brief_entry p (b.Offer end n) = simple p kind.Offer (Some end) (Some (m.Pick n))
brief_entry p b.Case = simple p kind.Case None None
brief_entry p b.Call = simple p kind.Call None None

-- the entry that is kept so, over these full ones
abbrev pub stored_entry : (full : List Entry) → Stored → Entry
stored_entry full (s.Brief p brief) = brief_entry p brief
stored_entry full (s.Full place) = get_or full place (simple 0 kind.Work None None)

-- the entries that are kept so
abbrev pub entries_of : (full : List Entry) → List Stored → List Entry
entries_of full stored = map (stored_entry full) stored

-- it is told briefly, or at a place that there is
abbrev pub IsKept : (full : List Entry) → Stored → Type 0
IsKept full (s.Brief p brief) = Unit {0}
IsKept full (s.Full place) = place < length full

-- each is
abbrev pub AreKept : (full : List Entry) → List Stored → Type 0
AreKept full [] = Unit {0}
AreKept full (one ∷ more) = IsKept full one × AreKept full more

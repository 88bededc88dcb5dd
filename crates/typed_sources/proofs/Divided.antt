-- How the headers of a plug divide what is held, by a test that computes.
use Rattle.std.proofs.Common.{◌≡◌, ◌⊎◌, inl, inr, refl, sym, ℕ, ◌≤◌, Bool, true, false, ◌&&◌, IsTrue, List, [], ◌∷◌, ◌++◌, Option, Some, None, true≢false, nat_eq, nat_le, eqb-true, leb-true}
use Rattle.campl_tree.specs.declared.service.Side.TheVariants.{Input, Output}
use Rattle.campl_tree.specs.Plain.ChanType.{ChanType}
use Rattle.campl_tree.specs.Plain.Process.{Link, Parts, no_parts, part_then}
use Rattle.campl_types.specs.Names.{Name, same_name, is_among, are_distinct}
use Rattle.campl_types.specs.World.{names_of}
use Rattle.campl_types.specs.Held.{Channel, On, Held}
use Rattle.campl_types.specs.Headers.{link_names, links_in, times_in, times_out, IsUsed, NamesDiffer, Divide}
use Rattle.campl_types.proofs.Truth.{and-first, and-second}
use Rattle.campl_types.proofs.Times.{among-none}
use Rattle.typed_sources.proofs.Within.{Within, passes, all_held, not-left, not-right, not-first, not-rest}

-- whether a name is used as it has to be
abbrev is_used : Option ChanType → Option Channel → (outputs inputs : ℕ) → Bool
is_used (Some t) None outputs inputs = nat_eq outputs 1 && nat_eq inputs 1
is_used (Some t) (Some c) outputs inputs = false
is_used None (Some (On Output t)) outputs inputs = nat_eq outputs 1 && nat_eq inputs 0
is_used None (Some (On Input t)) outputs inputs = nat_eq outputs 0 && nat_eq inputs 1
is_used None None outputs inputs = nat_eq outputs 0 && nat_eq inputs 0

both-are : (m n a b : ℕ) → IsTrue (nat_eq m a && nat_eq n b) → (m ≡ a) × (n ≡ b)
both-are m n a b i = (eqb-true m a (and-first (nat_eq m a) (nat_eq n b) i), eqb-true n b (and-second (nat_eq m a) (nat_eq n b) i))

used-is : (link : Option ChanType) (held : Option Channel) (outputs inputs : ℕ) → IsTrue (is_used link held outputs inputs) → IsUsed link held outputs inputs
used-is (Some t) None m n i = both-are m n 1 1 i
used-is (Some t) (Some c) m n i = absurd (true≢false (sym i))
used-is None (Some (On Output t)) m n i = both-are m n 1 0 i
used-is None (Some (On Input t)) m n i = both-are m n 0 1 i
used-is None None m n i = both-are m n 0 0 i

-- whether each of these names is
abbrev pub all_used : List Link → List Name → Held → Parts → Bool
all_used links names held parts = all_held (λ x c. is_used (links_in links x) c (times_out x parts) (times_in x parts)) names held

-- the names of all headers
abbrev pub header_names : Parts → List Name
header_names no_parts = []
header_names (part_then h body parts) = names_of h.inputs ++ (names_of h.outputs ++ header_names parts)

-- whether no header has a name twice
abbrev pub names_differ : Parts → Bool
names_differ no_parts = true
names_differ (part_then h body parts) = are_distinct (names_of h.inputs ++ names_of h.outputs) && names_differ parts

differ : (parts : Parts) → IsTrue (names_differ parts) → NamesDiffer parts
differ no_parts i = tt
differ (part_then h body parts) i =
    let d = are_distinct (names_of h.inputs ++ names_of h.outputs) in (and-first d (names_differ parts) i, differ parts (and-second d (names_differ parts) i))

-- Outside of all names

no-link : (x : Name) (links : List Link) → is_among x (link_names links) ≡ false → links_in links x ≡ None
no-link x [] i = refl
no-link x (l ∷ links) i =
    rw (not-first (same_name x l.name.name) (is_among x (link_names links)) i) (no-link x links (not-rest (same_name x l.name.name) (is_among x (link_names links)) i))

no-inputs : (x : Name) (parts : Parts) → is_among x (header_names parts) ≡ false → times_in x parts ≡ 0
no-inputs x no_parts i = refl
no-inputs x (part_then h body parts) i =
    let later = names_of h.outputs ++ header_names parts in
    rw (among-none x h.inputs (not-left x (names_of h.inputs) later i), no-inputs x parts (not-right x (names_of h.outputs) (header_names parts) (not-right x (names_of h.inputs) later i))) refl

no-outputs : (x : Name) (parts : Parts) → is_among x (header_names parts) ≡ false → times_out x parts ≡ 0
no-outputs x no_parts i = refl
no-outputs x (part_then h body parts) i =
    let later = not-right x (names_of h.inputs) (names_of h.outputs ++ header_names parts) i in
    rw (among-none x h.outputs (not-left x (names_of h.outputs) (header_names parts) later), no-outputs x parts (not-right x (names_of h.outputs) (header_names parts) later)) refl

-- the names of the links, of what is held and of the headers
abbrev pub all_names : List Link → List Name → Parts → List Name
all_names links names parts = link_names links ++ (names ++ header_names parts)

-- the test of a plug
abbrev pub divides : List Link → List Name → Held → Parts → Bool
divides links names held parts = all_used links (all_names links names parts) held parts && names_differ parts

-- what is held is divided where each link, each held channel and each name of a header is used as it has to be
pub divided : (links : List Link) {names : List Name} {held : Held} (parts : Parts) → Within names held → IsTrue (divides links names held parts) → Divide (links_in links) held parts
divided links {names} {held} parts h t =
    (λ x. go x (passes test all held x (and-first used (names_differ parts) t)), differ parts (and-second used (names_differ parts) t))
  where
    all : List Name
    all = all_names links names parts

    used : Bool
    used = all_used links all held parts

    test : Name → Option Channel → Bool
    test x c = is_used (links_in links x) c (times_out x parts) (times_in x parts)

    Used : Name → Type 0
    Used x = IsUsed (links_in links x) (held x) (times_out x parts) (times_in x parts)

    unused : (x : Name) → is_among x all ≡ false → Used x
    unused x i =
        let later = not-right x (link_names links) (names ++ header_names parts) i in
        let headers = not-right x names (header_names parts) later in
        let link = no-link x links (not-left x (link_names links) (names ++ header_names parts) i) in
        let free = h.elsewhere x (not-left x names (header_names parts) later) in
        rw (link, free, no-outputs x parts headers, no-inputs x parts headers) (refl, refl)

    go : (x : Name) → (is_among x all ≡ false) ⊎ IsTrue (test x (held x)) → Used x
    go x (inl i) = unused x i
    go x (inr i) = used-is (links_in links x) (held x) (times_out x parts) (times_in x parts) i

-- so many parts or branches
pub between-is : (least n most : ℕ) → IsTrue (nat_le least n && nat_le n most) → (least ≤ n) × (n ≤ most)
between-is least n most i = (leb-true least n (and-first (nat_le least n) (nat_le n most) i), leb-true n most (and-second (nat_le least n) (nat_le n most) i))

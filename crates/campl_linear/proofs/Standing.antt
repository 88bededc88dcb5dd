-- How often names stand in headers, and the parts in which they do.
use Rattle.std.proofs.Common.{◌≡◌, refl, ap, ℕ, zero, suc, ◌+◌, ◌≤◌, arith, Bool, true, false, if◌then◌else◌, List, [], ◌∷◌}
use Rattle.std.specs.List.{AllByRecursion}
use Rattle.campl_plug.specs.Links.{IsPart, IsWithin}
use Rattle.campl_tree.specs.declared.place.Ident.{Ident}
use Rattle.campl_tree.specs.Plain.Process.{Link, Header, Parts, no_parts, part_then}
use Rattle.campl_types.specs.Names.{Name, same_name, is_among}
use Rattle.campl_types.specs.World.{names_of}
use Rattle.campl_types.specs.Headers.{times, times_in, times_out, link_names, count}
use Rattle.campl_types.proofs.Names.{same-itself}
use Rattle.campl_types.proofs.Times.{among-none}
use Rattle.campl_peel.specs.Numbered.{one_up, number_of, outputs_in, inputs_in, joined_parts}
use Rattle.campl_peel.proofs.Numbers.{weight}
use Rattle.campl_types.proofs.Truth.{or-first, or-second}

-- how often a name stands on one side
abbrev pub on : (Header → List Ident) → Name → Parts → ℕ
on side x parts = weight (λ h. times x (side h)) parts

pub on-out : (x : Name) (parts : Parts) → times_out x parts ≡ on outputs_in x parts
on-out x no_parts = refl
on-out x (part_then h body parts) = ap (λ n. times x h.outputs + n) (on-out x parts)

pub on-in : (x : Name) (parts : Parts) → times_in x parts ≡ on inputs_in x parts
on-in x no_parts = refl
on-in x (part_then h body parts) = ap (λ n. times x h.inputs + n) (on-in x parts)

-- a name that stands on this side stands in a part of the plug
pub numbered : (side : Header → List Ident) (x : Name) (parts : Parts) → 1 ≤ on side x parts → IsPart (count parts) (number_of side x parts)
numbered side x no_parts some = absurd (omega (arith, some))
numbered side x (part_then h body parts) some = go (is_among x (names_of (side h))) refl (numbered side x parts)
  where
    next : (n : ℕ) → IsPart (count parts) n → IsPart (count (part_then h body parts)) (one_up n)
    next zero i = absurd (let low : 1 ≤ 0 = i.low in omega (arith, low))
    next (suc n) i = record { low = omega arith; high = let high : suc n ≤ count parts = i.high in omega (arith, high) }

    go : (b : Bool) → is_among x (names_of (side h)) ≡ b → (1 ≤ on side x parts → IsPart (count parts) (number_of side x parts)) → IsPart (count (part_then h body parts)) (if b then 1 else one_up (number_of side x parts))
    go true e later = record { low = omega arith; high = omega arith }
    go false e later = let z : times x (side h) ≡ 0 = among-none x (side h) e in next (number_of side x parts) (later (omega (arith, z, some)))

-- links that stand on both sides join parts
pub joined-within : (parts : Parts) (links : List Link) → ((x : Name) → is_among x (link_names links) ≡ true → (1 ≤ on outputs_in x parts) × (1 ≤ on inputs_in x parts))
    → AllByRecursion (IsWithin (count parts)) (joined_parts links parts)
joined-within parts [] h = tt
joined-within parts (l ∷ ls) h =
    let m = h l.name.name (or-first (same_name l.name.name l.name.name) (is_among l.name.name (link_names ls)) (same-itself l.name.name)) in (
      record { a_part = numbered outputs_in l.name.name parts m.0; b_part = numbered inputs_in l.name.name parts m.1 },
      joined-within parts ls (λ x i. h x (or-second (same_name x l.name.name) (is_among x (link_names ls)) i)),
    )

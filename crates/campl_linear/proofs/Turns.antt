-- What is judged in turn, and tests.
use Rattle.std.proofs.Common.{◌≡◌, refl, sym, ℕ, Bool, true, false, ◌&&◌, nat_le, true≢false}
use Rattle.std.proofs.lemmas.Bool.{le-leb, leb-true}
use Rattle.campl_seqcheck.specs.Judged as seq
use Rattle.campl_seqcheck.specs.Judged.{Fine, Judged, Is, Fails, and_then}
use Rattle.campl_linear.specs.Judged.{from_seq}
use Rattle.campl_linear.specs.Rows.{is_between}
use Rattle.campl_types.specs.Linear.{between}
use Rattle.campl_linear.specs.Faults.{LinFault}
use Rattle.campl_seqcheck.specs.declared.fault.SeqFault.{SeqFault}

-- the first of two was found, and then the second
pub in-turn : {A B : Type 0} → (first : Judged LinFault A) (next : A → Judged LinFault B) (y : B) → and_then first next ≡ Is y → (x : A) × (first ≡ Is x) × (next x ≡ Is y)
in-turn (Is x) next y i = (x, refl, i)
in-turn (Fails fault) next y i = absurd (cc i)

pub is-seq : {A : Type 0} → (j : seq.Judged SeqFault A) (y : A) → from_seq j ≡ Is y → j ≡ seq.Is y
is-seq (seq.Is x) y i = let e : x ≡ y = cc i in λ k. seq.Is (e k)
is-seq (seq.Fails fault) y i = absurd (cc i)

pub is-between : (least n most : ℕ) → is_between least n most ≡ true → between least n most
is-between least n most i = go (nat_le least n) (nat_le n most) refl refl i
  where
    go : (a b : Bool) → nat_le least n ≡ a → nat_le n most ≡ b → (a && b) ≡ true → between least n most
    go true true i j k = (leb-true least n i, leb-true n most j)
    go true false i j k = absurd (true≢false (sym k))
    go false b i j k = absurd (true≢false (sym k))

pub between-is : (least n most : ℕ) → between least n most → is_between least n most ≡ true
between-is least n most i = rw (le-leb least n i.0, le-leb n most i.1) refl

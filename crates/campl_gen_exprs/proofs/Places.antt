-- Code that grows and whose places are written afterwards is the code of the definition.
use Rattle.std.proofs.Common.{◌≡◌, ◌∙◌, refl, sym, ap, ℕ, ◌+◌, Bool, true, false, List, [], ◌∷◌, ◌++◌, length, length-append, append_assoc, arith}
use Rattle.std.specs.Prelude.{slice_set}
use Rattle.campl_code.specs.Generated.{past, leave, tested_code}
use Rattle.campl_code.specs.Instructions as i
use Rattle.campl_code.specs.Instructions.{Instr}
use Rattle.campl_gen_exprs.specs.Emission.{written}

pub set-at : (xs ys : List Instr) (x y : Instr) → slice_set (xs ++ x ∷ ys) (length xs) y ≡ xs ++ y ∷ ys
set-at [] ys x y = refl
set-at (z ∷ xs) ys x y = ap (λ (l : List Instr). z ∷ l) (set-at xs ys x y)

-- at a place that is the length of what stands before
pub set-there : (xs ys all : List Instr) (x y : Instr) (n : ℕ) → all ≡ xs ++ x ∷ ys → n ≡ length xs → slice_set all n y ≡ xs ++ y ∷ ys
set-there xs ys all x y n is at = ap (λ l. slice_set l n y) is ∙ ap (λ k. slice_set (xs ++ x ∷ ys) k y) at ∙ set-at xs ys x y

-- Two operands

pub one-code : (old x t : List Instr) → (old ++ x) ++ t ≡ old ++ (x ++ t)
one-code old x t = append_assoc old x t

pub two-code : (old x : List Instr) (q : ℕ → List Instr) (t : List Instr) → ((old ++ x) ++ q (length (old ++ x))) ++ t ≡ old ++ (x ++ (q (length old + length x) ++ t))
two-code old x q t =
    ap (λ n. ((old ++ x) ++ q n) ++ t) (length-append old x) ∙ append_assoc (old ++ x) (q (length old + length x)) t
    ∙ append_assoc old x (q (length old + length x) ++ t)

-- `if`

-- the jump between two branches
jump-there : (tail : Bool) (before y all : List Instr) (at to : ℕ) → all ≡ before ++ (past tail 0 ++ y) → at ≡ length before → written tail all at to ≡ before ++ (past tail to ++ y)
jump-there true before y all at to is here = is
jump-there false before y all at to is here = set-there before y all (i.Jump 0) (i.Jump to) at is here

pub if-code : (tail : Bool) (old z : List Instr) (p q : ℕ → List Instr) (l1 l2 l3 l4 l5 : List Instr)
    → l1 ≡ old ++ z → l2 ≡ l1 ++ i.Unless 0 ∷ [] → l3 ≡ l2 ++ p (length l2) → l4 ≡ l3 ++ past tail 0 → l5 ≡ l4 ++ q (length l4)
    → written tail (slice_set l5 (length l1) (i.Unless (length l4))) (length l3) (length l5)
    ≡ old ++ (z ++ (i.Unless (length old + length z + 1 + length (p (length old + length z + 1)) + length (past tail 0))
    ∷ (p (length old + length z + 1)
    ++ (past tail (length old + length z + 1 + length (p (length old + length z + 1)) + length (past tail 0)
    + length (q (length old + length z + 1 + length (p (length old + length z + 1)) + length (past tail 0))))
    ++ q (length old + length z + 1 + length (p (length old + length z + 1)) + length (past tail 0))))))
if-code tail old z p q l1 l2 l3 l4 l5 e1 e2 e3 e4 e5 =
    let k = length old + length z + 1 in
    let x = p k in
    let r = k + length x + length (past tail 0) in
    let y = q r in
    let n1 : length l1 ≡ length old + length z = ap length e1 ∙ length-append old z in
    let n2 : length l2 ≡ k = omega (arith, n1, ap length e2 ∙ length-append l1 (i.Unless 0 ∷ [])) in
    let h3 : l3 ≡ l2 ++ x = e3 ∙ ap (λ n. l2 ++ p n) n2 in
    let n3 : length l3 ≡ k + length x = omega (arith, n2, ap length h3 ∙ length-append l2 x) in
    let n4 : length l4 ≡ r = omega (arith, n3, ap length e4 ∙ length-append l3 (past tail 0)) in
    let h5 : l5 ≡ l4 ++ y = e5 ∙ ap (λ n. l4 ++ q n) n4 in
    let n5 : length l5 ≡ r + length y = omega (arith, n4, ap length h5 ∙ length-append l4 y) in
    let whole : l5 ≡ l1 ++ (i.Unless 0 ∷ (x ++ (past tail 0 ++ y))) =
    h5 ∙ ap (λ l. l ++ y) (e4 ∙ ap (λ l. l ++ past tail 0) (h3 ∙ ap (λ l. l ++ x) e2))
    ∙ append_assoc ((l1 ++ i.Unless 0 ∷ []) ++ x) (past tail 0) y ∙ append_assoc (l1 ++ i.Unless 0 ∷ []) x (past tail 0 ++ y)
    ∙ append_assoc l1 (i.Unless 0 ∷ []) (x ++ (past tail 0 ++ y)) in
    let tested : slice_set l5 (length l1) (i.Unless (length l4)) ≡ l1 ++ (i.Unless (length l4) ∷ (x ++ (past tail 0 ++ y))) =
    set-there l1 (x ++ (past tail 0 ++ y)) l5 (i.Unless 0) (i.Unless (length l4)) (length l1) whole refl in
    let before = l1 ++ (i.Unless (length l4) ∷ x) in
    let long : length l3 ≡ length before = omega (arith, n1, n3, length-append l1 (i.Unless (length l4) ∷ x)) in
    let apart : slice_set l5 (length l1) (i.Unless (length l4)) ≡ before ++ (past tail 0 ++ y) =
    tested ∙ sym (append_assoc l1 (i.Unless (length l4) ∷ x) (past tail 0 ++ y)) in
    jump-there tail before y (slice_set l5 (length l1) (i.Unless (length l4))) (length l3) (length l5) apart long
    ∙ append_assoc l1 (i.Unless (length l4) ∷ x) (past tail (length l5) ++ y)
    ∙ ap (λ l. l ++ (i.Unless (length l4) ∷ (x ++ (past tail (length l5) ++ y)))) e1
    ∙ append_assoc old z (i.Unless (length l4) ∷ (x ++ (past tail (length l5) ++ y)))
    ∙ ap (λ n. old ++ (z ++ (i.Unless n ∷ (x ++ (past tail (length l5) ++ y))))) n4
    ∙ ap (λ n. old ++ (z ++ (i.Unless r ∷ (x ++ (past tail n ++ y))))) n5

-- `&&`

pub and-code : (tail : Bool) (old z : List Instr) (q : ℕ → List Instr) (l1 l2 l3 l4 : List Instr)
    → l1 ≡ old ++ z → l2 ≡ l1 ++ i.Unless 0 ∷ [] → l3 ≡ l2 ++ q (length l2) → l4 ≡ l3 ++ tested_code (length l3) tail
    → slice_set l4 (length l1) (i.Unless (length l3 + 3))
    ≡ old ++ (z ++ (i.Unless (length old + length z + 1 + length (q (length old + length z + 1)) + 3)
    ∷ (q (length old + length z + 1) ++ tested_code (length old + length z + 1 + length (q (length old + length z + 1))) tail)))
and-code tail old z q l1 l2 l3 l4 e1 e2 e3 e4 =
    let k = length old + length z + 1 in
    let x = q k in
    let s = k + length x in
    let n1 : length l1 ≡ length old + length z = ap length e1 ∙ length-append old z in
    let n2 : length l2 ≡ k = omega (arith, n1, ap length e2 ∙ length-append l1 (i.Unless 0 ∷ [])) in
    let h3 : l3 ≡ l2 ++ x = e3 ∙ ap (λ n. l2 ++ q n) n2 in
    let n3 : length l3 ≡ s = omega (arith, n2, ap length h3 ∙ length-append l2 x) in
    let h4 : l4 ≡ l3 ++ tested_code s tail = e4 ∙ ap (λ n. l3 ++ tested_code n tail) n3 in
    let whole : l4 ≡ l1 ++ (i.Unless 0 ∷ (x ++ tested_code s tail)) =
    h4 ∙ ap (λ l. l ++ tested_code s tail) (h3 ∙ ap (λ l. l ++ x) e2)
    ∙ append_assoc (l1 ++ i.Unless 0 ∷ []) x (tested_code s tail) ∙ append_assoc l1 (i.Unless 0 ∷ []) (x ++ tested_code s tail) in
    set-there l1 (x ++ tested_code s tail) l4 (i.Unless 0) (i.Unless (length l3 + 3)) (length l1) whole refl
    ∙ ap (λ l. l ++ (i.Unless (length l3 + 3) ∷ (x ++ tested_code s tail))) e1
    ∙ append_assoc old z (i.Unless (length l3 + 3) ∷ (x ++ tested_code s tail))
    ∙ ap (λ n. old ++ (z ++ (i.Unless (n + 3) ∷ (x ++ tested_code s tail)))) n3

-- `||`

leave-there : (tail : Bool) (before y all : List Instr) (at to : ℕ) → all ≡ before ++ (leave tail 0 ∷ y) → at ≡ length before → written tail all at to ≡ before ++ (leave tail to ∷ y)
leave-there true before y all at to is here = is
leave-there false before y all at to is here = set-there before y all (i.Jump 0) (i.Jump to) at is here

pub or-code : (tail : Bool) (old z : List Instr) (q : ℕ → List Instr) (l1 l2 l3 l4 l5 : List Instr)
    → l1 ≡ old ++ z → l2 ≡ l1 ++ i.Unless (length l1 + 3) ∷ i.Truth true ∷ [] → l3 ≡ l2 ++ leave tail 0 ∷ [] → l4 ≡ l3 ++ q (length l3) → l5 ≡ l4 ++ tested_code (length l4) tail
    → written tail l5 (length l2) (length l4 + 4)
    ≡ old ++ (z ++ (i.Unless (length old + length z + 3) ∷ i.Truth true ∷ leave tail (length old + length z + 3 + length (q (length old + length z + 3)) + 4)
    ∷ (q (length old + length z + 3) ++ tested_code (length old + length z + 3 + length (q (length old + length z + 3))) tail)))
or-code tail old z q l1 l2 l3 l4 l5 e1 e2 e3 e4 e5 =
    let k = length old + length z + 3 in
    let x = q k in
    let s = k + length x in
    let n1 : length l1 ≡ length old + length z = ap length e1 ∙ length-append old z in
    let n2 : length l2 ≡ length old + length z + 2 = omega (arith, n1, ap length e2 ∙ length-append l1 (i.Unless (length l1 + 3) ∷ i.Truth true ∷ [])) in
    let n3 : length l3 ≡ k = omega (arith, n2, ap length e3 ∙ length-append l2 (leave tail 0 ∷ [])) in
    let h4 : l4 ≡ l3 ++ x = e4 ∙ ap (λ n. l3 ++ q n) n3 in
    let n4 : length l4 ≡ s = omega (arith, n3, ap length h4 ∙ length-append l3 x) in
    let h5 : l5 ≡ l4 ++ tested_code s tail = e5 ∙ ap (λ n. l4 ++ tested_code n tail) n4 in
    let whole : l5 ≡ l2 ++ (leave tail 0 ∷ (x ++ tested_code s tail)) =
    h5 ∙ ap (λ l. l ++ tested_code s tail) (h4 ∙ ap (λ l. l ++ x) e3)
    ∙ append_assoc (l2 ++ leave tail 0 ∷ []) x (tested_code s tail) ∙ append_assoc l2 (leave tail 0 ∷ []) (x ++ tested_code s tail) in
    let behind = λ (n to : ℕ). i.Unless n ∷ i.Truth true ∷ leave tail to ∷ (x ++ tested_code s tail) in
    leave-there tail l2 (x ++ tested_code s tail) l5 (length l2) (length l4 + 4) whole refl
    ∙ ap (λ l. l ++ (leave tail (length l4 + 4) ∷ (x ++ tested_code s tail))) e2
    ∙ append_assoc l1 (i.Unless (length l1 + 3) ∷ i.Truth true ∷ []) (leave tail (length l4 + 4) ∷ (x ++ tested_code s tail))
    ∙ ap (λ l. l ++ behind (length l1 + 3) (length l4 + 4)) e1
    ∙ append_assoc old z (behind (length l1 + 3) (length l4 + 4))
    ∙ ap (λ n. old ++ (z ++ behind (n + 3) (length l4 + 4))) n1
    ∙ ap (λ n. old ++ (z ++ behind (length old + length z + 3) (n + 4))) n4

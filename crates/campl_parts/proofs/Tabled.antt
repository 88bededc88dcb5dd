-- What the calls on the two tables make of them.
use Rattle.std.proofs.Common.{arith, zero, ◌≡◌, ◌≢◌, ◌<◌, ◌+◌, ◌*◌, ℕ, suc, List, [], ◌∷◌, ◌++◌, Option, Some, length, set, sym, ap, ap₂, ◌∙◌, option_map}
use Rattle.campl_value.specs.declared.message.Message.{Message}
use Rattle.campl_parts.specs.declared.part.ProcPart.{ProcPart}
use Rattle.campl_parts.specs.declared.inbox.EndPart.{EndPart}
use Rattle.campl_parts.specs.Views.{proc_of, tip_of}
use Rattle.campl_parts.proofs.Places.{read_set, read_push, length-push}
use Rattle.campl_cells.specs.Parts.{Proc, Tip, put, written, bare, or_bare}
use Rattle.campl_cells.specs.Steps.{borne, joined_to, meets, tips_joined}
use Rattle.campl_cells.proofs.Puts.{put-else}
use Rattle.campl_parts.specs.Tables.{procs, tips}

pub channel-born : (es fs : List EndPart) (a b : EndPart) (n c : ℕ) → fs ≡ (es ++ a ∷ []) ++ b ∷ [] → n ≡ length es → n ≡ 2 * c → tip_of a ≡ joined_to (n + 1) → tip_of b ≡ joined_to n →
    tips fs ≡ written (borne (c ∷ [])) (tips es)
channel-born es fs a b n c e l w x y =
    let two = read_push (option_map tip_of) (es ++ a ∷ []) b in
    let one = read_push (option_map tip_of) es a in
    let k : length (es ++ a ∷ []) ≡ 2 * c + 1 = omega (arith, length-push es a, l, w) in
    ap tips e ∙ two ∙ ap (λ f. put (length (es ++ a ∷ [])) (Some (tip_of b)) f) one
    ∙ (λ i. put (k i) (Some ((y ∙ ap joined_to w) i)) (put ((sym l ∙ w) i) (Some ((x ∙ ap (λ z. joined_to (z + 1)) w) i)) (tips es)))

pub child-born : (ps qs : List ProcPart) (a b : ProcPart) (p n : ℕ) (u v : Proc) → p < length ps → qs ≡ set ps p a ++ b ∷ [] → n ≡ length ps → length (set ps p a) ≡ length ps → proc_of a ≡ u → proc_of b ≡ v →
    procs qs ≡ put n (Some v) (put p (Some u) (procs ps))
child-born ps qs a b p n u v h e l k x y =
    let two = read_push (option_map proc_of) (set ps p a) b in
    let one = read_set (option_map proc_of) ps p a h in
    ap procs e ∙ two ∙ ap (λ f. put (length (set ps p a)) (Some (proc_of b)) f) one ∙ (λ i. put ((k ∙ sym l) i) (Some (y i)) (put p (Some (x i)) (procs ps)))

pub left-bare : (es : List EndPart) (y : ℕ) (e : EndPart) → y < length es → tip_of e ≡ bare → tips (set es y e) ≡ put y (Some bare) (tips es)
left-bare es y e h x = read_set (option_map tip_of) es y e h ∙ ap (λ t. put y (Some t) (tips es)) x

-- a chain of two that leave and two that meet
pub joins-made : (t t1 t2 t3 t4 : ℕ → Option Tip) (x y x2 y2 : ℕ) (left right : List Message) → x ≢ y → x2 ≢ x → x2 ≢ y → y2 ≢ x → y2 ≢ y → x2 ≢ y2 →
    t1 ≡ put x (Some bare) t → left ≡ (or_bare (t x)).inbox → t2 ≡ put y (Some bare) t1 → right ≡ (or_bare (t1 y)).inbox →
    t3 ≡ put x2 (Some (record { peer = Some y2; inbox = (or_bare (t2 x2)).inbox ++ right })) t2 → t4 ≡ put y2 (Some (record { peer = Some x2; inbox = (or_bare (t3 y2)).inbox ++ left })) t3 →
    t4 ≡ written (tips_joined t x y x2 y2) t
joins-made t t1 t2 t3 t4 x y x2 y2 left right xy x2x x2y y2x y2y x2y2 h1 hl h2 hr h3 h4 =
    let inbox : Option Tip → List Message = λ o. (or_bare o).inbox in
    let at_y : right ≡ inbox (t y) = hr ∙ ap inbox (ap (λ (f : ℕ → Option Tip). f y) h1 ∙ put-else x y (Some bare) t xy) in
    let at_x2 : inbox (t2 x2) ≡ inbox (t x2) = ap inbox (ap (λ (f : ℕ → Option Tip). f x2) h2 ∙ (put-else y x2 (Some bare) t1 (λ e. x2y (sym e)) ∙ (ap (λ (f : ℕ → Option Tip). f x2) h1 ∙ put-else x x2 (Some bare) t (λ e. x2x (sym e))))) in
    let at_y2 : inbox (t3 y2) ≡ inbox (t y2) = ap inbox (ap (λ (f : ℕ → Option Tip). f y2) h3 ∙ (put-else x2 y2 (Some (record { peer = Some y2; inbox = inbox (t2 x2) ++ right })) t2 x2y2 ∙ (ap (λ (f : ℕ → Option Tip). f y2) h2 ∙ (put-else y y2 (Some bare) t1 (λ e. y2y (sym e)) ∙ (ap (λ (f : ℕ → Option Tip). f y2) h1 ∙ put-else x y2 (Some bare) t (λ e. y2x (sym e))))))) in
    let two : t2 ≡ put y (Some bare) (put x (Some bare) t) = h2 ∙ ap (put y (Some bare)) h1 in
    let three : t3 ≡ put x2 (Some (meets (or_bare (t x2)) y2 (or_bare (t y)))) (put y (Some bare) (put x (Some bare) t)) = h3 ∙ ap₂ (λ (a : List Message) (f : ℕ → Option Tip). put x2 (Some (record { peer = Some y2; inbox = a })) f) (ap₂ ◌++◌ at_x2 at_y) two in
    h4 ∙ ap₂ (λ (a : List Message) (f : ℕ → Option Tip). put y2 (Some (record { peer = Some x2; inbox = a })) f) (ap₂ ◌++◌ at_y2 hl) three

-- a process that is there has a number below their count
pub there-below : (ps : List ProcPart) (i : ℕ) (q : Proc) → procs ps i ≡ Some q → i < length ps
there-below [] i q h = absurd (let z : ⊥ = cc in z)
there-below (x ∷ ps) zero q h = omega arith
there-below (x ∷ ps) (suc i) q h = let l : i < length ps = there-below ps i q h in omega arith

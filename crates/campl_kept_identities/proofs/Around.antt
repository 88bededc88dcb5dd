-- What an identity makes of a configuration, end by end.
use Rattle.std.proofs.Common.{◌≡◌, ◌≢◌, [], ◌++◌, ◌⊎◌, inl, inr, refl, sym, ap, ◌∙◌, Some, None, true≢false}
use Rattle.campl_machine.specs.Names.{End, Who, same_end, same_who}
use Rattle.campl_machine.specs.Machine.{Links, linked, joined, update, rewired}
use Rattle.campl_machine.specs.Independence.{Paired}
use Rattle.campl_machine.proofs.Same.{same_who-is, same_who-refl}
use Rattle.campl_machine.proofs.Updates.{split}
use Rattle.campl_machine.proofs.Ends.{ne, Off}
use Rattle.campl_machine.proofs.Wired.{wired, wired-gone, wired-x2, wired-y2, wired-off, Sits, sits}
use Rattle.campl_machine.proofs.Owed.{at_gone, at_y2, at_x2, off}
use Rattle.campl_machine.proofs.Partners.{paired-kept}
use Rattle.campl_meaning.specs.Reductions.{Configuration}

-- d is c after the process p is gone
pub data NodeAfter (c d : Configuration) (p who : Who) : Type 0 where
  Went : p ≡ who → d.nodes who ≡ None → NodeAfter c d p who
  Stayed : p ≢ who → d.nodes who ≡ c.nodes who → NodeAfter c d p who

-- an end after the identity of x and y with the partners x2 and y2
pub data EndAfter (c d : Configuration) (x y x2 y2 e : End) : Type 0 where
  Left : (x ≡ e) ⊎ (y ≡ e) → d.partner e ≡ None → d.owed e ≡ [] → EndAfter c d x y x2 y2 e
  FarX : x2 ≡ e → d.partner e ≡ Some y2 → d.owed e ≡ c.owed y ++ c.owed x2 → EndAfter c d x y x2 y2 e
  FarY : y2 ≡ e → d.partner e ≡ Some x2 → d.owed e ≡ c.owed x ++ c.owed y2 → EndAfter c d x y x2 y2 e
  Kept : Off x y x2 y2 e → d.partner e ≡ c.partner e → d.owed e ≡ c.owed e → EndAfter c d x y x2 y2 e

pub record IsAround (c d : Configuration) (p : Who) (x y x2 y2 : End) : Type 0 where
  pub nodes : (who : Who) → NodeAfter c d p who
  pub ends : (e : End) → EndAfter c d x y x2 y2 e
  pub owed_x2 : d.owed x2 ≡ c.owed y ++ c.owed x2
  pub owed_y2 : d.owed y2 ≡ c.owed x ++ c.owed y2
  pub paired : Paired d
  pub partners : d.partner ≡ update same_end (rewired x y x2 y2) c.partner

pub around : (c : Configuration) (p : Who) (x y x2 y2 : End) → Paired c → c.partner x ≡ Some x2 → c.partner y ≡ Some y2 → x ≢ y → x2 ≢ y → IsAround c (linked c p x y x2 y2) p x y x2 y2
unfolding Sits
around c p x y x2 y2 pairs px py xy x2y = record {
  nodes = λ who. elim (split (same_who p who)) [
    | inl i ↦ Went (same_who-is p who i) (rw i refl)
    | inr i ↦ Stayed (λ k. true≢false (sym (same_who-refl p) ∙ (ap (same_who p) k ∙ i))) (rw i refl)
  ];
  ends = λ e. elim (sits x y x2 y2 e) [
    | inl w ↦ Left w (wired-gone x y x2 y2 c.partner e w) (at_gone x y x2 y2 c.owed e w)
    | inr (inl i) ↦ FarX i (ap (wired x y x2 y2 c.partner) (sym i) ∙ wired-x2 x y x2 y2 c.partner xx2 (ne x2 y x2y)) (ap (joined x y x2 y2 c.owed) (sym i) ∙ far_x)
    | inr (inr (inl i)) ↦ FarY i (ap (wired x y x2 y2 c.partner) (sym i) ∙ wired-y2 x y x2 y2 c.partner xy2 yy2 x2y2) (ap (joined x y x2 y2 c.owed) (sym i) ∙ far_y)
    | inr (inr (inr o)) ↦ Kept o (wired-off x y x2 y2 c.partner e o) (off x y x2 y2 c.owed e o)
  ];
  owed_x2 = far_x;
  owed_y2 = far_y;
  paired = paired-kept c p (Links x y) (linked c p x y x2 y2) pairs tt (λ e u. absurd u) (x2, y2, px, py, xy, x2y, refl);
  partners = refl;
}
  where
    xx2 : x ≢ x2
    xx2 i = pairs.other x (cc (px, i))

    yy2 : y ≢ y2
    yy2 i = pairs.other y (cc (py, i))

    xy2 : x ≢ y2
    xy2 i = x2y (cc (px, pairs.back y y2 py, i))

    x2y2 : x2 ≢ y2
    x2y2 i = xy (cc (pairs.back x x2 px, pairs.back y y2 py, i))

    far_x : joined x y x2 y2 c.owed x2 ≡ c.owed y ++ c.owed x2
    far_x = at_x2 x y x2 y2 c.owed xx2 (ne x2 y x2y) (ne x2 y2 x2y2)

    far_y : joined x y x2 y2 c.owed y2 ≡ c.owed x ++ c.owed y2
    far_y = at_y2 x y x2 y2 c.owed xy2 yy2

-- In a well declared source a constructor is among the choices of a type exactly where its declaration is that
-- type's, and what remains behind it is what that declaration says.
use Rattle.std.proofs.Common.{◌≡◌, ◌∙◌, refl, sym, ap, subst, ℕ, suc, Bool, true, false, if◌then◌else◌, List, [], ◌∷◌, Option, Some, None, map}
use Rattle.campl_tree.specs.Plain.SeqType.{SeqType}
use Rattle.campl_tree.specs.Plain.Decl.{Decl, Protocol, Coprotocol, Program, ProtocolDecl, CoprotocolDecl, ProtocolConstructor, CoprotocolConstructor}
use Rattle.campl_types.specs.Names.{Name, same_name, found}
use Rattle.campl_types.specs.Polarity.{line, protocol_choices, coprotocol_choices}
use Rattle.campl_types.specs.Twice.{declared_from, twice_among}
use Rattle.campl_types.specs.WellDeclared.{IsWellDeclared}
use Rattle.campl_types.specs.World.{World, world_of, declared_ident, TypeEntry, ProtocolType, CoprotocolType, type_entry, type_named, ConstructorEntry, OfData, OfProtocol, OfCoprotocol, constructor_named}
use Rattle.campl_types.proofs.Names.{same-itself}
use Rattle.campl_linear.specs.Remains.{remains_of, remains}
use Rattle.campl_types.proofs.Listed.{IsIn}
use Rattle.campl_types.proofs.DeclaredOnce.{protocol_lines, coprotocol_lines, lines_in, in-type, line-named, not-its-own, protocol-own, coprotocol-own, once-declared}

protocol-told : (d : ProtocolDecl) (ts : List SeqType) (k : Name) (n : ℕ) (ks : List ProtocolConstructor)
    → found k (map (λ (c : ProtocolConstructor). (c.name.name, line d.local d.name d.parameters ts c.channel_type)) ks) ≡ remains_of d.name.name (found k (protocol_lines d n ks)) ts
protocol-told d ts k n [] = refl
protocol-told d ts k n (c ∷ ks) = go (same_name k c.name.name) (protocol-told d ts k (suc n) ks)
  where
    go : (b : Bool) → found k (map (λ (c : ProtocolConstructor). (c.name.name, line d.local d.name d.parameters ts c.channel_type)) ks) ≡ remains_of d.name.name (found k (protocol_lines d (suc n) ks)) ts
        → (if b then Some (line d.local d.name d.parameters ts c.channel_type) else found k (map (λ (c : ProtocolConstructor). (c.name.name, line d.local d.name d.parameters ts c.channel_type)) ks))
        ≡ remains_of d.name.name (if b then Some (OfProtocol d n c) else found k (protocol_lines d (suc n) ks)) ts
    go true ih = let s = same-itself d.name.name in rw s refl
    go false ih = ih

coprotocol-told : (d : CoprotocolDecl) (ts : List SeqType) (k : Name) (n : ℕ) (ks : List CoprotocolConstructor)
    → found k (map (λ (c : CoprotocolConstructor). (c.name.name, line d.local d.name d.parameters ts c.channel_type)) ks) ≡ remains_of d.name.name (found k (coprotocol_lines d n ks)) ts
coprotocol-told d ts k n [] = refl
coprotocol-told d ts k n (c ∷ ks) = go (same_name k c.name.name) (coprotocol-told d ts k (suc n) ks)
  where
    go : (b : Bool) → found k (map (λ (c : CoprotocolConstructor). (c.name.name, line d.local d.name d.parameters ts c.channel_type)) ks) ≡ remains_of d.name.name (found k (coprotocol_lines d (suc n) ks)) ts
        → (if b then Some (line d.local d.name d.parameters ts c.channel_type) else found k (map (λ (c : CoprotocolConstructor). (c.name.name, line d.local d.name d.parameters ts c.channel_type)) ks))
        ≡ remains_of d.name.name (if b then Some (OfCoprotocol d n c) else found k (coprotocol_lines d (suc n) ks)) ts
    go true ih = let s = same-itself d.name.name in rw s refl
    go false ih = ih

module _ (w : World) (once : twice_among [] (declared_from 0 w) ≡ []) where
  -- what is told by the declaration, of a type with these lines
  agree : (d : Decl) (t : TypeEntry) (k : Name) (ts : List SeqType) → IsIn d w → type_named w (declared_ident d).name ≡ Some t → ((e : Decl) → type_entry e ≡ Some t → e ≡ d)
      → remains_of (declared_ident d).name (found k (lines_in d)) ts ≡ remains w (declared_ident d).name k ts
  agree d t k ts i named own = go (found k (lines_in d)) refl
    where
      other : (o : Option ConstructorEntry) → constructor_named w k ≡ o → found k (lines_in d) ≡ None → None ≡ remains_of (declared_ident d).name o ts
      other None e none = refl
      other (Some (OfData c n l)) e none = refl
      other (Some (OfProtocol c n l)) e none = test (same_name c.name.name (declared_ident d).name) refl
        where
          test : (b : Bool) → same_name c.name.name (declared_ident d).name ≡ b → None ≡ (if b then Some (line c.local c.name c.parameters ts l.channel_type) else None)
          test true s = absurd (not-its-own w once d t k (OfProtocol c n l) named own none e (ProtocolType c) refl s)
          test false s = refl
      other (Some (OfCoprotocol c n l)) e none = test (same_name c.name.name (declared_ident d).name) refl
        where
          test : (b : Bool) → same_name c.name.name (declared_ident d).name ≡ b → None ≡ (if b then Some (line c.local c.name c.parameters ts l.channel_type) else None)
          test true s = absurd (not-its-own w once d t k (OfCoprotocol c n l) named own none e (CoprotocolType c) refl s)
          test false s = refl

      go : (o : Option ConstructorEntry) → found k (lines_in d) ≡ o → remains_of (declared_ident d).name o ts ≡ remains w (declared_ident d).name k ts
      go (Some c) e = ap (λ p. remains_of (declared_ident d).name p ts) (sym (line-named w once d k c i e))
      go None e = other (constructor_named w k) refl e

  protocol-agrees : (x : Name) (d : ProtocolDecl) → type_named w x ≡ Some (ProtocolType d) → (k : Name) (ts : List SeqType) → found k (protocol_choices d ts) ≡ remains w x k ts
  protocol-agrees x d i k ts =
      let r = in-type w x (ProtocolType d) i in
      let o = protocol-own d r.0 r.2 in
      let n : x ≡ d.name.name = r.3 ∙ ap (λ z. (declared_ident z).name) o in
      let named : type_named w d.name.name ≡ Some (ProtocolType d) = ap (type_named w) (sym n) ∙ i in
      protocol-told d ts k 0 d.constructors
      ∙ agree (Protocol d) (ProtocolType d) k ts (subst (λ z. IsIn z w) o r.1) named (protocol-own d)
      ∙ ap (λ y. remains w y k ts) (sym n)

  coprotocol-agrees : (x : Name) (d : CoprotocolDecl) → type_named w x ≡ Some (CoprotocolType d) → (k : Name) (ts : List SeqType) → found k (coprotocol_choices d ts) ≡ remains w x k ts
  coprotocol-agrees x d i k ts =
      let r = in-type w x (CoprotocolType d) i in
      let o = coprotocol-own d r.0 r.2 in
      let n : x ≡ d.name.name = r.3 ∙ ap (λ z. (declared_ident z).name) o in
      let named : type_named w d.name.name ≡ Some (CoprotocolType d) = ap (type_named w) (sym n) ∙ i in
      coprotocol-told d ts k 0 d.constructors
      ∙ agree (Coprotocol d) (CoprotocolType d) k ts (subst (λ z. IsIn z w) o r.1) named (coprotocol-own d)
      ∙ ap (λ y. remains w y k ts) (sym n)

pub protocol-choices-declared : (source : Program) → IsWellDeclared source → (x : Name) (d : ProtocolDecl) → type_named (world_of source) x ≡ Some (ProtocolType d) → (k : Name) (ts : List SeqType)
    → found k (protocol_choices d ts) ≡ remains (world_of source) x k ts
protocol-choices-declared source i = protocol-agrees (world_of source) (once-declared source i)

pub coprotocol-choices-declared : (source : Program) → IsWellDeclared source → (x : Name) (d : CoprotocolDecl) → type_named (world_of source) x ≡ Some (CoprotocolType d) → (k : Name) (ts : List SeqType)
    → found k (coprotocol_choices d ts) ≡ remains (world_of source) x k ts
coprotocol-choices-declared source i = coprotocol-agrees (world_of source) (once-declared source i)

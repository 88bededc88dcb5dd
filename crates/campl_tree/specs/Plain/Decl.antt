-- Declarations as definitions see them.
use Rattle.std.specs.Prelude.{List}
use Rattle.campl_tree.specs.declared.place.Place.{Place}
use Rattle.campl_tree.specs.declared.place.Ident.{Ident}
use Rattle.campl_tree.specs.declared.process.Binder.{Binder}
use Rattle.campl_tree.specs.Plain.SeqType.{SeqType}
use Rattle.campl_tree.specs.Plain.ChanType.{ChanType}
use Rattle.campl_tree.specs.Plain.Pattern.{Patterns}
use Rattle.campl_tree.specs.Plain.Expr.{Expr}
use Rattle.campl_tree.specs.Plain.Process.{Body}

pub record DataConstructor : Type 0 where
  pub name : Ident
  pub parts : List SeqType

pub record DataDecl : Type 0 where
  pub place : Place
  pub name : Ident
  pub parameters : List Ident
  pub constructors : List DataConstructor

pub record ProtocolConstructor : Type 0 where
  pub name : Ident
  pub channel_type : ChanType
  pub local : Ident

pub record ProtocolDecl : Type 0 where
  pub place : Place
  pub name : Ident
  pub parameters : List Ident
  pub local : Ident
  pub constructors : List ProtocolConstructor

pub record CoprotocolConstructor : Type 0 where
  pub name : Ident
  pub local : Ident
  pub channel_type : ChanType

pub record CoprotocolDecl : Type 0 where
  pub place : Place
  pub local : Ident
  pub name : Ident
  pub parameters : List Ident
  pub constructors : List CoprotocolConstructor

pub record FunctionRow : Type 0 where
  pub place : Place
  pub patterns : Patterns
  pub value : Expr

pub record FunctionDecl : Type 0 where
  pub place : Place
  pub name : Ident
  pub parameters : List SeqType
  pub result : SeqType
  pub rows : List FunctionRow

pub record ProcessRow : Type 0 where
  pub place : Place
  pub variables : List Binder
  pub inputs : List Ident
  pub outputs : List Ident
  pub body : Body

pub record ProcessDecl : Type 0 where
  pub place : Place
  pub name : Ident
  pub parameters : List SeqType
  pub inputs : List ChanType
  pub outputs : List ChanType
  pub row : ProcessRow

pub data Decl : Type 0 where
  Data : DataDecl → Decl
  Protocol : ProtocolDecl → Decl
  Coprotocol : CoprotocolDecl → Decl
  Function : FunctionDecl → Decl
  Process : ProcessDecl → Decl

-- the declarations of a source, in order
abbrev pub Program : Type 0
Program = List Decl

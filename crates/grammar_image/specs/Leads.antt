-- What the nodes of a derivation lead back to: a byte, or a node of the derivation that is made.
use Rattle.std.specs.Prelude.{◌≡◌, ℕ, Bool, true, false, List, Option, Some, None, length, slice_get, slice_index_or}
use Rattle.derivations.specs.declared.node.Part.{Part}
use Rattle.derivations.specs.declared.node.Part.TheVariants.{Byte, Token, Inner}
use Rattle.derivations.specs.declared.node.Parts.{Parts}
use Rattle.derivations.specs.declared.node.Parts.TheVariants.{Empty, One, Two}
use Rattle.derivations.specs.declared.node.Node.{Node}
use Rattle.derivations.specs.Lawful.{Grows}

-- what a part leads back to, where that of the nodes before is known: a byte to itself, a page token to nothing
abbrev pub led_part : List (Option Part) → Part → Option Part
led_part leads (Byte b) = Some (Byte b)
led_part leads (Token t) = None
led_part leads (Inner n) = slice_index_or leads n None

-- one part, where it leads back to one
abbrev pub one_led : Option Part → Option Parts
one_led None = None
one_led (Some a) = Some (One a)

-- two parts, where each leads back to one
abbrev pub two_led : Option Part → Option Part → Option Parts
two_led None other = None
two_led (Some a) None = None
two_led (Some a) (Some b) = Some (Two a b)

-- what the parts of a node lead back to, where each leads back to something
abbrev pub led_parts : List (Option Part) → Parts → Option Parts
led_parts leads Empty = Some Empty
led_parts leads (One a) = one_led (led_part leads a)
led_parts leads (Two a b) = two_led (led_part leads a) (led_part leads b)

-- the byte as a part
abbrev pub byte_part : Option ℕ → Option Part
byte_part None = None
byte_part (Some b) = Some (Byte b)

-- a use of the production with these parts is put behind the others, if there are any
abbrev pub Pushes : List Node → List Node → ℕ → Option Parts → Option Part → Type 0
Pushes old new production None lead = (new ≡ old) × (lead ≡ None)
Pushes old new production (Some parts) lead = Grows old new production parts × (lead ≡ Some (Inner (length old)))

-- what a node leads back to whose production comes of one of the grammar: a new node; and elsewhere: the first byte of its sentence
abbrev pub Comes : List Node → List Node → List (Option Part) → Option ℕ → Option ℕ → Parts → Option Part → Type 0
Comes old new leads None first parts lead = (new ≡ old) × (lead ≡ byte_part first)
Comes old new leads (Some place) first parts lead = Pushes old new place (led_parts leads parts) lead

-- what a node leads back to, and how the nodes grow for it; nothing, where it is not marked
abbrev pub Leads : Bool → List Node → List Node → List (Option Part) → List ℕ → Option ℕ → Node → Option Part → Type 0
Leads false old new leads sources first node lead = (new ≡ old) × (lead ≡ None)
Leads true old new leads sources first node lead = Comes old new leads (slice_get sources node.production) first node.parts lead

-- the first part's, where there is one
abbrev pub first_led : List (Option Part) → Parts → Option Part
first_led leads Empty = None
first_led leads (One a) = led_part leads a
first_led leads (Two a b) = led_part leads a

-- the node that a part is
abbrev pub node_of : List Node → Option Part → Option Node
node_of nodes None = None
node_of nodes (Some (Byte b)) = None
node_of nodes (Some (Token t)) = None
node_of nodes (Some (Inner n)) = slice_get nodes n

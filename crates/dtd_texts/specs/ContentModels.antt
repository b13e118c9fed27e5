-- What stands behind the name in the declaration of an element (XML 1.0, 3.2): `EMPTY`, `ANY`, text and elements
-- (`(#PCDATA|a|b)*`), or elements in an order. One stage a place, and one function a stage: what a token leads to.
use Rattle.std.specs.Prelude.{ℕ, nat_lt, if◌then◌else◌, List, [], ◌∷◌, ◌++◌, length, codes, Option, Some, None, position, bytes_eq}
use Rattle.xml_text.specs.Names.{is_name}
use Rattle.dtd_model.specs.Table.{Model, one, sequence, choice, optional, any_number, at_least_one, Models, no_models, more_models, Holding, nothing, anything, text_and, children}
use Rattle.dtd_texts.specs.Heads.{same}
use Rattle.dtd_texts.specs.Tokens.{Token, gap, word, opening, closing, bar, comma, question, star, plus, hash}
use Rattle.dtd_texts.specs.Went.{Went, leads, refused, too_deep, undeclared, all_steps, then_go}

-- what stands between the particles of a group, once it is known
pub data Separator : Type 0 where
  unknown : Separator
  by_bar : Separator
  by_comma : Separator

-- an open bracket, with the particles behind it
pub record Group : Type 0 where
  pub separator : Separator
  pub parts : List Model

-- a place behind the name, with what is known of the content so far
pub data Stage : Type 0 where
  -- behind the name, and behind the white space there
  behind_name : Stage
  at_content : Stage
  -- behind the first bracket, and behind `#` there
  at_first : Stage
  at_text : Stage
  -- in text and elements: behind one of them, behind a bar, and behind the bracket
  behind_text : List ℕ → Stage
  at_element : List ℕ → Stage
  behind_mixed : List ℕ → Stage
  -- in groups, the inner one first: where a particle is due, directly behind one, and behind white space there
  at_particle : List Group → Stage
  on_particle : List Group → Model → Stage
  behind_particle : List Group → Stage
  -- behind the last bracket
  behind_group : Model → Stage
  -- only white space may follow
  done : Holding → Stage

-- the most brackets that may be open
abbrev pub bracket_limit : ℕ
bracket_limit = 200

-- the place of a name among names
abbrev pub number_of : List (List ℕ) → List ℕ → Option ℕ
number_of names name = position (bytes_eq name) names

-- the number of the element of this name, where it is one
abbrev pub numbered : Option ℕ → List ℕ → Went ℕ
numbered None name = undeclared name
numbered (Some k) name = leads k

-- the number of an element that a content model names: its place among the declared ones, from 0
abbrev pub element_named : List (List ℕ) → List ℕ → Went ℕ
element_named names w = if is_name w then numbered (number_of names w) w else refused

-- the content: `EMPTY`, `ANY`, or `(`, which opens text and elements or a group (3.2, contentspec)
abbrev pub content_step : Token → Went Stage
content_step (word w) = if same w (codes "EMPTY") then leads (done nothing) else if same w (codes "ANY") then leads (done anything)
    else refused
content_step opening = leads at_first
content_step _ = refused

-- a bracket that was just opened: no particle in it, and its separator not known
abbrev pub new_group : Group
new_group = record { separator = unknown; parts = [] }

-- the inner group with one particle more
abbrev pub put : Model → List Group → List Group
put m [] = []
put m (g ∷ groups) = record g { parts = g.parts ++ m ∷ [] } ∷ groups

-- the particles in the same order
abbrev pub all_models : List Model → Models
all_models [] = no_models
all_models (m ∷ ms) = more_models m (all_models ms)

-- a group of one particle is a sequence
abbrev pub group_model : Separator → Models → Model
group_model unknown ms = sequence ms
group_model by_bar ms = choice ms
group_model by_comma ms = sequence ms

-- where a particle is due: white space, the name of an element, or one more `(` while fewer than 200 are open
abbrev pub particle_step : List (List ℕ) → List Group → Token → Went Stage
particle_step names groups gap = leads (at_particle groups)
particle_step names groups (word w) = then_go (element_named names w) (λ k. leads (on_particle groups (one k)))
particle_step names groups opening = if nat_lt (length groups) bracket_limit then leads (at_particle (new_group ∷ groups)) else too_deep
particle_step names groups _ = refused

-- a separator of the inner group is the one that it has, or its first (3.2.1)
abbrev pub with_bar : Group → List Group → Separator → Went Stage
with_bar g groups unknown = leads (at_particle (record g { separator = by_bar } ∷ groups))
with_bar g groups by_bar = leads (at_particle (g ∷ groups))
with_bar g groups by_comma = refused

-- a comma: the separator of the inner group, where it has none yet or has the comma; refused behind a bar
abbrev pub with_comma : Group → List Group → Separator → Went Stage
with_comma g groups unknown = leads (at_particle (record g { separator = by_comma } ∷ groups))
with_comma g groups by_bar = refused
with_comma g groups by_comma = leads (at_particle (g ∷ groups))

-- a group is whole: the content where no bracket is open, and else a particle of the group around it
abbrev pub close : Model → List Group → Stage
close m [] = behind_group m
close m (g ∷ groups) = on_particle (g ∷ groups) m

-- behind a particle: white space, a separator of the inner group, or `)`, which closes it (3.2.1, choice and seq)
abbrev pub behind_step : List Group → Token → Went Stage
behind_step [] t = refused
behind_step (g ∷ groups) gap = leads (behind_particle (g ∷ groups))
behind_step (g ∷ groups) bar = with_bar g groups g.separator
behind_step (g ∷ groups) comma = with_comma g groups g.separator
behind_step (g ∷ groups) closing = leads (close (group_model g.separator (all_models g.parts)) groups)
behind_step (g ∷ groups) _ = refused

-- a particle with `?`, `*` or `+` directly behind it, or without
abbrev pub on_step : List Group → Model → Token → Went Stage
on_step groups m question = leads (behind_particle (put (optional m) groups))
on_step groups m star = leads (behind_particle (put (any_number m) groups))
on_step groups m plus = leads (behind_particle (put (at_least_one m) groups))
on_step groups m t = behind_step (put m groups) t

-- behind the last bracket: `?`, `*` or `+`, which stands for the whole content, or white space
abbrev pub group_step : Model → Token → Went Stage
group_step m question = leads (done (children (optional m)))
group_step m star = leads (done (children (any_number m)))
group_step m plus = leads (done (children (at_least_one m)))
group_step m gap = leads (done (children m))
group_step m _ = refused

-- behind the first bracket: white space, `#`, or what may stand first in a group
abbrev pub first_step : List (List ℕ) → Token → Went Stage
first_step names gap = leads at_first
first_step names hash = leads at_text
first_step names t = particle_step names (new_group ∷ []) t

-- behind `(#` the word is `PCDATA` (3.2.2, Mixed)
abbrev pub text_step : Token → Went Stage
text_step (word w) = if same w (codes "PCDATA") then leads (behind_text []) else refused
text_step _ = refused

-- behind `#PCDATA` or an element: white space, a bar, or `)`
abbrev pub behind_text_step : List ℕ → Token → Went Stage
behind_text_step es gap = leads (behind_text es)
behind_text_step es bar = leads (at_element es)
behind_text_step es closing = leads (behind_mixed es)
behind_text_step es _ = refused

-- behind a bar: white space, or the name of an element that may stand among the text
abbrev pub element_step : List (List ℕ) → List ℕ → Token → Went Stage
element_step names es gap = leads (at_element es)
element_step names es (word w) = then_go (element_named names w) (λ k. leads (behind_text (es ++ k ∷ [])))
element_step names es _ = refused

-- the star may be left out where no elements are named (3.2.2)
abbrev pub mixed_step : List ℕ → Token → Went Stage
mixed_step es star = leads (done (text_and es))
mixed_step [] gap = leads (done (text_and []))
mixed_step es _ = refused

-- white space has to come between the name and the content
abbrev pub name_step : Token → Went Stage
name_step gap = leads at_content
name_step _ = refused

-- behind the content white space alone may stand
abbrev pub done_step : Holding → Token → Went Stage
done_step h gap = leads (done h)
done_step h _ = refused

-- the step of each place, where these elements are declared
abbrev pub stage_step : List (List ℕ) → Stage → Token → Went Stage
stage_step names behind_name t = name_step t
stage_step names at_content t = content_step t
stage_step names at_first t = first_step names t
stage_step names at_text t = text_step t
stage_step names (behind_text es) t = behind_text_step es t
stage_step names (at_element es) t = element_step names es t
stage_step names (behind_mixed es) t = mixed_step es t
stage_step names (at_particle groups) t = particle_step names groups t
stage_step names (on_particle groups m) t = on_step groups m t
stage_step names (behind_particle groups) t = behind_step groups t
stage_step names (behind_group m) t = group_step m t
stage_step names (done h) t = done_step h t

-- what the tokens say, where they end
abbrev pub stage_end : Stage → Went Holding
stage_end (done h) = leads h
stage_end (behind_group m) = leads (children m)
stage_end (behind_mixed []) = leads (text_and [])
stage_end _ = refused

-- the content that the tokens behind the name say, where these elements are declared
abbrev pub content_of : List (List ℕ) → List Token → Went Holding
content_of names ts = then_go (all_steps (stage_step names) behind_name ts) stage_end

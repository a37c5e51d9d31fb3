-- What the words `dist` and `steps` alone say.
use Rattle.std.proofs.Common.{◌≡◌, ℕ, List, [], ◌∷◌, Option, Some, None, refl, ap, sym, subst, inl}
use Rattle.std.proofs.Common.{inr, ◌∙◌, true, codes}
use Rattle.std.specs.Prelude.{option_map, is_some, Result, Ok, Err, IfOk, IfErr, OnErr}
use Rattle.std.proofs.lemmas.Bool.{false≢true}
use Rattle.clap.specs.Words.{HasMatchesOf, Row, Text, first_of, first_value, one_of, rows_of}
use Rattle.clap.specs.Words.{is_simple, takes, subcommand_of, subcommand_rows_of}
use Rattle.clap.specs.Matches.{subcommand_name_of}
use Rattle.clap.specs.declared.parser.matches.ArgMatches.{ArgMatches}
use Rattle.clap.specs.declared.parser.matches.Found.{Found}
use Rattle.clap.proofs.OnLiterals.{clap_on_literals}
use Rattle.clap.proofs.WalkLemmas.{first_value-rows}
use Rattle.metric.specs.Digits.{value_from}
use Rattle.metric.specs.declared.edge.Edge.TheVariants.{Open}
use Rattle.metric.specs.declared.kind.MetricKind.TheVariants.{Euclid2}
use Rattle.command_line.specs.declared.arguments.DistOptions.{DistOptions}
use Rattle.command_line.specs.CommandLine.{AreDistOptions, AreNoDistOptions, AreOptions, AreTaken}
use Rattle.command_line.specs.CommandLine.{AreDefaultOptions, IsSaidBy, program_app}
use Rattle.words.specs.Numbers.{number}
use Rattle.command_line.specs.ServeLine.{AreNoMatch, AreServeOptions, in_range}
use Rattle.command_line.specs.declared.arguments.ServeOptions.{ServeOptions}
use Rattle.command_line.specs.declared.arguments.Fault.{Fault}
use Rattle.command_line.specs.declared.arguments.Fault.TheVariants.{Memory}
use Rattle.command_line.specs.declared.arguments.Options.{Options}
use Rattle.command_line.specs.declared.arguments.Options.TheVariants.{Ask, Dist, Serve, Steps}

-- what is none under a map is none
map_none : {A B : Type 0} (f : A → B) (o : Option A) → option_map f o ≡ None → o ≡ None
map_none f None none = refl
map_none f (Some a) none = absurd (cc)

-- the texts of the flags of `dist`, in the order of their options
abbrev pub texts_in : List Row → Option Text × Option Text × Option Text × Option Text × Option Text
texts_in rows = (
  first_of (codes "metric") rows,
  one_of (codes "nearest") rows,
  first_of (codes "query") rows,
  first_of (codes "workers") rows,
  first_of (codes "edge") rows,
)

-- the texts of the flags of `dist` if none is given
abbrev pub default_texts : Option Text × Option Text × Option Text × Option Text × Option Text
default_texts = (
  Some (codes "euclid2"),
  Some (codes "false"),
  None,
  Some (codes "1"),
  Some (codes "open"),
)

-- the word `dist` alone is taken, whatever the program is called
pub takes_dist : (name : List ℕ) → takes program_app (name ∷ codes "dist" ∷ []) ≡ true
unfolding clap_on_literals
takes_dist name = refl

-- the word `dist` alone names the subcommand `dist`, whatever the program is called
name_of_dist : (name : List ℕ)
    → option_map (λ (p : Text × List Row). p.0)
    (subcommand_of program_app (name ∷ codes "dist" ∷ [])) ≡ Some (codes "dist")
unfolding clap_on_literals
name_of_dist name = refl

-- the word `dist` alone gives no flag, so that all have their defaults
texts_of_dist : (name : List ℕ)
    → option_map (λ (p : Text × List Row). texts_in p.1)
    (subcommand_of program_app (name ∷ codes "dist" ∷ [])) ≡ Some default_texts
unfolding clap_on_literals
texts_of_dist name = refl

-- the program's commands and flags are simple ones
program_is_simple : is_simple program_app ≡ true
unfolding clap_on_literals
program_is_simple = refl

-- the first parts of pairs that are made of an option's value are the option of the first parts
first_of_pair : {X A B : Type 0} (f : X → A) (g : X → B) (o : Option X)
    → option_map f o ≡ option_map (λ (p : A × B). p.0) (option_map (λ b. (f b, g b)) o)
first_of_pair f g None = refl
first_of_pair f g (Some x) = refl

-- a parse whose words name a subcommand has met it, whatever its flags
named_as : (name : Text) (texts : List (List ℕ)) (matches : ArgMatches)
    → HasMatchesOf program_app texts matches
    → option_map (λ (p : Text × List Row). p.0) (subcommand_of program_app texts) ≡ Some name
    → subcommand_name_of matches ≡ Some name
named_as name texts matches found named =
    first_of_pair _ _ _
    ∙ (ap (option_map (λ (p : Text × List Row). p.0)) (found program_is_simple).1 ∙ named)

-- a parse whose words name the subcommand `dist` has met it
pub named_dist : (name : List ℕ) (texts : List (List ℕ)) (matches : ArgMatches)
    → texts ≡ name ∷ codes "dist" ∷ [] → HasMatchesOf program_app texts matches
    → subcommand_name_of matches ≡ Some (codes "dist")
named_dist name texts matches words found =
    named_as (codes "dist") texts matches found (rw words (name_of_dist name))

-- what is read of an option's second parts is read of each of them
read_second : {X : Type 0} (read : List Row → X) (found : Option (Text × List Row))
    (rows : List Row) (texts : X)
    → option_map (λ (p : Text × List Row). p.1) found ≡ Some rows
    → option_map (λ (p : Text × List Row). read p.1) found ≡ Some texts → read rows ≡ texts
read_second read None rows texts these told = absurd (cc)
read_second read (Some p) rows texts these told =
    let same : p.1 ≡ rows = cc in
    let told_is : read p.1 ≡ texts = cc in rw same at told_is

-- the word `steps` alone is taken, whatever the program is called
pub takes_steps : (name : List ℕ) → takes program_app (name ∷ codes "steps" ∷ []) ≡ true
unfolding clap_on_literals
takes_steps name = refl

-- the word `steps` alone names the subcommand `steps`, whatever the program is called
name_of_steps : (name : List ℕ)
    → option_map (λ (p : Text × List Row). p.0)
    (subcommand_of program_app (name ∷ codes "steps" ∷ [])) ≡ Some (codes "steps")
unfolding clap_on_literals
name_of_steps name = refl

-- a parse whose words name the subcommand `steps` has met it
pub named_steps : (name : List ℕ) (texts : List (List ℕ)) (matches : ArgMatches)
    → texts ≡ name ∷ codes "steps" ∷ [] → HasMatchesOf program_app texts matches
    → subcommand_name_of matches ≡ Some (codes "steps")
named_steps name texts matches words found =
    named_as (codes "steps") texts matches found (rw words (name_of_steps name))

-- a parse whose words name a subcommand has met it
named_so : (name : Text) (rows : List Row) (texts : List (List ℕ)) (matches : ArgMatches)
    → HasMatchesOf program_app texts matches → subcommand_of program_app texts ≡ Some (name, rows)
    → subcommand_name_of matches ≡ Some name
named_so name rows texts matches found named =
    named_as name texts matches found
    (ap (option_map (λ (p : Text × List Row). p.0)) named)

-- a parse whose words name a subcommand has met the flags that these words give it
rows_so : (name : Text) (given rows : List Row) (texts : List (List ℕ)) (matches : ArgMatches)
    → HasMatchesOf program_app texts matches → subcommand_of program_app texts ≡ Some (name, given)
    → option_map (λ (p : Text × List Row). p.1) (subcommand_rows_of matches) ≡ Some rows
    → given ≡ rows
rows_so name given rows texts matches found named these =
    let same : Some given ≡ Some rows =
    sym (ap (option_map (λ (p : Text × List Row). p.1)) ((found program_is_simple).1 ∙ named))
    ∙ these in cc

-- no name is both `dist` and `steps`
pub one_name : (name : Option Text) → name ≡ Some (codes "dist") → name ≡ Some (codes "steps") → ⊥
one_name name dist steps =
    let same : Some (codes "dist") ≡ Some (codes "steps") = sym dist ∙ steps in cc

-- where the words are `dist` alone its flags have their defaults
pub dist_defaults : (name : List ℕ) (texts : List (List ℕ)) (matches : ArgMatches) (rows : List Row)
    → texts ≡ name ∷ codes "dist" ∷ [] → HasMatchesOf program_app texts matches
    → option_map (λ (p : Text × List Row). p.1) (subcommand_rows_of matches) ≡ Some rows
    → texts_in rows ≡ default_texts
dist_defaults name texts matches rows words found these =
    read_second texts_in (subcommand_of program_app (name ∷ codes "dist" ∷ [])) rows default_texts
    (rw ((found program_is_simple).1, words) at these) (texts_of_dist name)

-- the default number of workers is one
one_worker : in_range 1 16 (Some (codes "1")) ≡ Some 1
unfolding number value_from
one_worker = refl

-- flags with their defaults are the default options
pub default_options-read : (rows : List Row) (options : DistOptions) → AreDistOptions rows options
    → texts_in rows ≡ default_texts → AreDefaultOptions options
default_options-read rows options are texts =
    let metric : first_of (codes "metric") rows ≡ Some (codes "euclid2") = ap (λ t. t.0) texts in
    let nearest : one_of (codes "nearest") rows ≡ Some (codes "false") = ap (λ t. t.1) texts in
    let query : first_of (codes "query") rows ≡ None = ap (λ t. t.2) texts in
    let workers : first_of (codes "workers") rows ≡ Some (codes "1") = ap (λ t. t.3) texts in
    let edge : first_of (codes "edge") rows ≡ Some (codes "open") = ap (λ t. t.4) texts in
    let named : Some Euclid2 ≡ Some options.metric = rw metric at are.metric in
    let counted : Some 1 ≡ Some options.workers.count =
    sym one_worker ∙ rw workers at are.workers
    in
    let bordered : Some Open ≡ Some options.edge = rw edge at are.edge in
    record {
      metric = cc;
      edge = cc;
      nearest = are.unset nearest;
      query = map_none _ options.query (are.query ∙ query);
      workers = cc;
    }

-- flags with their defaults do say options
pub defaults_are_known : (rows : List Row) → texts_in rows ≡ default_texts
    → AreNoDistOptions rows → ⊥
defaults_are_known rows texts none =
    let metric : first_of (codes "metric") rows ≡ Some (codes "euclid2") = ap (λ t. t.0) texts in
    let workers : first_of (codes "workers") rows ≡ Some (codes "1") = ap (λ t. t.3) texts in
    let edge : first_of (codes "edge") rows ≡ Some (codes "open") = ap (λ t. t.4) texts in
    elim none [
      | inl unknown ↦ let named : Some Euclid2 ≡ None = rw metric at unknown in cc
      | inr (inl unknown) ↦ let named : Some Open ≡ None = rw edge at unknown in cc
      | inr (inr unknown) ↦
          false≢true (sym (ap is_some (sym one_worker ∙ rw workers at unknown)))
    ]

-- where the words are to be taken the metric, the border and the number of workers are known
pub flags_are_known : (rows : List Row) (texts : List (List ℕ)) (matches : ArgMatches)
    → AreTaken texts → HasMatchesOf program_app texts matches
    → subcommand_name_of matches ≡ Some (codes "dist")
    → option_map (λ (p : Text × List Row). p.1) (subcommand_rows_of matches) ≡ Some rows
    → AreNoDistOptions rows → ⊥
flags_are_known rows texts matches (takes, inl dist) found met these none =
    let same = rows_so (codes "dist") dist.rows rows texts matches found dist.named these in
    elim none [
      | inl unknown ↦ false≢true (sym (ap is_some unknown) ∙ rw same at dist.metric)
      | inr (inl unknown) ↦ false≢true (sym (ap is_some unknown) ∙ rw same at dist.edge)
      | inr (inr unknown) ↦ false≢true (sym (ap is_some unknown) ∙ rw same at dist.workers)
    ]
flags_are_known rows texts matches (takes, inr (inl steps)) found met these unknown =
    one_name _ met (named_so (codes "steps") steps.rows texts matches found steps.named)
flags_are_known rows texts matches (takes, inr (inr (inl serve))) found met these unknown =
    let same : Some (codes "dist") ≡ Some (codes "serve") = sym met
    ∙ named_so (codes "serve") serve.1.0 texts matches found serve.1.1 in cc
flags_are_known rows texts matches (takes, inr (inr (inr ask))) found met these unknown =
    let same : Some (codes "dist") ≡ Some (codes "ask") = sym met
    ∙ named_so (codes "ask") ask.1.0 texts matches found ask.1.1 in cc

-- words to be taken that aren't `dist` or `steps` are refused only when out of memory, where other
-- refusals mean that no options match
pub command_is_named : (texts : List (List ℕ)) (matches : ArgMatches)
    (result : Result Options Fault) → AreTaken texts → HasMatchesOf program_app texts matches
    → (subcommand_name_of matches ≡ Some (codes "dist") → ⊥)
    → (subcommand_name_of matches ≡ Some (codes "steps") → ⊥) → OnErr result (AreNoMatch matches)
    → IfErr result (λ fault. fault ≡ Memory)
command_is_named texts matches result (takes, inl dist) found no_dist no_steps none =
    absurd (no_dist (named_so (codes "dist") dist.rows texts matches found dist.named))
command_is_named texts matches result (takes, inr (inl steps)) found no_dist no_steps none =
    absurd (no_steps (named_so (codes "steps") steps.rows texts matches found steps.named))
command_is_named texts matches (Ok options) (takes, inr (inr named)) found no_dist no_steps none =
    tt
command_is_named texts matches (Err fault) (takes, inr (inr (inl serve))) found no_dist no_steps
    none =
    absurd (none (Serve serve.0) (serve.1.0, (found program_is_simple).1 ∙ serve.1.1, serve.1.2))
command_is_named texts matches (Err fault) (takes, inr (inr (inr ask))) found no_dist no_steps
    none = absurd (none (Ask ask.0) (ask.1.0, (found program_is_simple).1 ∙ ask.1.1, ask.1.2))

-- a result is what the words say where its options are theirs, and words to be taken are refused
-- only when out of memory
pub said_so : (words : List (List ℕ)) (result : Result Options Fault)
    → IfOk result (AreOptions words) → (AreTaken words → IfErr result (λ fault. fault ≡ Memory))
    → IsSaidBy words result
said_so words (Ok options) are refused = are
said_so words (Err fault) are refused = refused

-- a flag's first value is the text that its rows have
pub text_of_flag : (found : Found) (name : List ℕ)
    → first_value found name ≡ first_of name (rows_of found)
text_of_flag = first_value-rows

-- where `serve` was matched with flags that say no options, no options are matched
pub no_match_serve : (matches : ArgMatches) (rows : List Row)
    → subcommand_name_of matches ≡ Some (codes "serve")
    → option_map (λ (p : Text × List Row). p.1) (subcommand_rows_of matches) ≡ Some rows
    → ((options : ServeOptions) → AreServeOptions rows options → ⊥) → AreNoMatch matches
no_match_serve matches rows named these none (Serve options) are =
    let same : Some are.0 ≡ Some rows = sym (ap (option_map (λ (p : Text × List Row). p.1)) are.1)
    ∙ these in
    let rows_are : are.0 ≡ rows = cc in
    none options (subst (λ (r : List Row). AreServeOptions r options) rows_are are.2)
no_match_serve matches rows named these none (Ask options) are =
    let same : Some (codes "serve") ≡ Some (codes "ask") = sym named
    ∙ (first_of_pair _ _ _ ∙ ap (option_map (λ (p : Text × List Row). p.0)) are.1) in cc
no_match_serve matches rows named these none (Dist options) are = are
no_match_serve matches rows named these none Steps are = are

use Rattle.std.proofs.Common.{refl}
use Rattle.automaton.proofs.Automata.{built_automaton, automaton_spells}
use Rattle.automaton.proofs.Automaton.new.Goals as goal

pub returns : goal.returns
returns c = record {
  letters = refl;
  whole = refl;
  made = λ x. built_automaton x _;
  spells = λ x B e. automaton_spells (built_automaton x _ B e);
}

-- What a finished list means. Assumes nothing.
--
--   listed A s   the automaton over the letters of A that the finished list s is
use Rattle.models.specs.Alphabet.{Alphabet}
use Rattle.models.specs.Automaton.{Model}
use Rattle.lists.specs.declared.listed.Listed.{Listed}
use Rattle.lists.specs.Finished.{listed_model}

abbrev pub listed : {K : Type 0} → Alphabet K → Listed K → Model K
listed A s = listed_model A.number s.records.now s.words.now s.used s.columns s.taken s.memory

-- A host's plain numbers as words of lent memory, for callers that keep them there.
-- Assumes nothing.
use Rattle.std.specs.Prelude.{List, ℕ, get_or}
use Rattle.hosts.specs.declared.State.{State}

-- how many words there are: one for each number, in the order of `hosts::State`, and one for the place that a step answers
abbrev pub words : ℕ
words = 12

abbrev pub place_word : ℕ
place_word = 11

abbrev pub state_of : List ℕ → State
state_of n = record {
  me = get_or n 0 0;
  hosts = get_or n 1 0;
  peers = get_or n 2 0;
  width = get_or n 3 0;
  size = get_or n 4 0;
  bounds = get_or n 5 0;
  entries = get_or n 6 0;
  len = get_or n 7 0;
  from = get_or n 8 0;
  transfers = get_or n 9 0;
  turns = get_or n 10 0;
}

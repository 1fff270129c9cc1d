-- The code's five numbers as the reply that they make.
use Rattle.stocklog.specs.Replies.{Values, values, Reply, reply}
use Rattle.stocklog.specs.declared.numbers.Values as code
use Rattle.stocklog.specs.declared.numbers.Numbers.{Numbers}

abbrev pub values_in : code.Values → Values
values_in v = values v.0 v.1 v.2

abbrev pub numbers_in : Numbers → Reply
numbers_in n = reply n.number (values_in n.values) n.told

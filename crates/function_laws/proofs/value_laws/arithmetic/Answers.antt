use Rattle.function_laws.proofs.Numbers.{sum_value, difference_value, product_value, remainder_value, quotient_value, negation_value, increment_value, decrement_value}
use Rattle.function_laws.proofs.value_laws.arithmetic.Goals as goal

pub returns-clause-sum : goal.returns-clause-sum
returns-clause-sum c = sum_value

pub returns-clause-difference : goal.returns-clause-difference
returns-clause-difference c = difference_value

pub returns-clause-product : goal.returns-clause-product
returns-clause-product c = product_value

pub returns-clause-remainder : goal.returns-clause-remainder
returns-clause-remainder c = λ a b v h g e. remainder_value a b v g.parts e

pub returns-clause-quotient : goal.returns-clause-quotient
returns-clause-quotient c = quotient_value

pub returns-clause-negation : goal.returns-clause-negation
returns-clause-negation c = negation_value

pub returns-clause-increment : goal.returns-clause-increment
returns-clause-increment c = increment_value

pub returns-clause-decrement : goal.returns-clause-decrement
returns-clause-decrement c = decrement_value

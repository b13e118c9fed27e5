-- What the names in a function are seen as.
use Rattle.php_syntax.specs.Trees.{functions_of_list}
use Rattle.flow_code.specs.Expressions.{Scope}
use Rattle.flow_lowering.specs.declared.scope.FunctionScope.{FunctionScope}

-- the plain form of what names stand for in a function
abbrev pub scope_in : FunctionScope → Scope
scope_in s = record { base = s.base; names = s.names.now.keys; functions = functions_of_list s.functions.now }

mod TinyProblems
